use Rattle.std.proofs.Common.{◌∙◌}
use Rattle.lines.proofs.Many.{left_more, left_none, left_ended}
use Rattle.lines.proofs.items.are_many.Goals as goal

pub returns-in_default : goal.returns-in_default
returns-in_default g c = record { are = left_none g.T.Item.reads c.args.count c.loop.counter c.loop.left.now c.loop-test.true c.in_default.ensures ∙ c.loop.invariant; bytes = λ i. (c.type_inv.bytes i).fits }

pub loop-preserved : goal.loop-preserved
loop-preserved g c = left_more g.T.Item.reads c.args.count c.loop.counter c.loop.left.now _ c.in-Some.rest.now c.loop-test.true c.in-Some.ensures ∙ c.loop.invariant

pub returns : goal.returns
returns g c = record { are = c.is_empty.ensures ∙ left_ended g.T.Item.reads c.args.count c.loop.counter c.loop.left.now c.loop-test.false ∙ c.loop.invariant; bytes = λ i. (c.type_inv.bytes i).fits }
