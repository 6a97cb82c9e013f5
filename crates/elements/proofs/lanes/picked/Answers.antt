use Rattle.std.proofs.Common.{◌/◌, ◌%◌, ◌^◌, ◌∙◌, arith}
use Rattle.elements.proofs.Blends.{all_lanes, no_lanes}
use Rattle.elements.proofs.lanes.picked.Goals as goal
use Rattle.elements.proofs.lanes.picked.Goals.{then-c-k-eq1, else-c-k-eq1}

pub returns : goal.returns
returns c =
    let b = c.args.c / 2 ^ c.args.k % 2 in
    elim c.if-c-k-eq1.branch [
      | then-c-k-eq1 w ↦ w.result-is ∙ all_lanes b c.args.x (omega (arith, w.if-c-k-eq1.true))
      | else-c-k-eq1 w ↦ w.result-is ∙ no_lanes 32 b c.args.x c.fits-x.0 (omega (arith, w.if-c-k-eq1.false))
    ]
