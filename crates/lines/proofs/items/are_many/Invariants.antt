use Rattle.std.proofs.Common.{◌≡◌, ◌-◌}
use Rattle.lines.specs.Calls.{are_many}
use Rattle.lines.proofs.items.are_many.Given as goal

-- what is left decides
abbrev pub invariant-loop : goal.invariant-loop
invariant-loop g l = are_many g.T.Item.reads (l.count - l.counter) l.left ≡ are_many g.T.Item.reads l.count l.initial.left
