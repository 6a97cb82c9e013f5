use Rattle.std.proofs.Common.{rules}
use Rattle.std.proofs.lemmas.Slice.{overwrites}
use Rattle.steps.proofs.Lent.place.Goals as goal

pub returns-then-got-eq512 : goal.returns-then-got-eq512
returns-then-got-eq512 c = search (rules, overwrites)
