use Rattle.std.proofs.Common.{◌≡◌, ◌*◌, take}
use Rattle.field.specs.Field.{dot, map4, row}
use Rattle.elements.proofs.sums.blend_vectors.Given as goal

abbrev pub invariant-loop-i : goal.invariant-loop-i
invariant-loop-i g l = take (l.i * 32) l.out ≡ take (l.i * 32) (map4 (dot (row g.row.A g.row.B g.row.C g.row.D)) l.w l.x l.y l.z)
