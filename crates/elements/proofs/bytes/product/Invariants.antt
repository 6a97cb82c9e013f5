use Rattle.std.proofs.Common.{◌≡◌, ◌-◌, ◌/◌, ◌^◌}
use Rattle.field.specs.Field.{by}
use Rattle.elements.proofs.bytes.product.Given as goal

abbrev pub invariant-loop-k : goal.invariant-loop-k
invariant-loop-k l = l.sum ≡ by (8 - l.k) (l.c / 2 ^ l.k) l.x
