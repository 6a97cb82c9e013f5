use Rattle.std.proofs.Common.{◌≡◌, ◌+◌, ◌-◌, take, drop, ap, ◌∙◌, arith, length-take, take_all}
use Rattle.elements.proofs.lanes.load.Goals as goal

pub returns : goal.returns
returns c =
    let rest = drop c.args.at c.args.s.now in
    let e : c.args.at + 32 - c.args.at ≡ 32 = omega arith in
    ap (λ n. take 32 (take n rest)) e ∙ take_all 32 (take 32 rest) (simp length-take (omega arith))
