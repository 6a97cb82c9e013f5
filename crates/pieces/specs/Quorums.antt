-- The pieces of a quorum.
-- Assumes nothing.
use Rattle.std.specs.Prelude.{List}
use Rattle.field.specs.Stripe.{Held, four_held}
use Rattle.pieces.specs.declared.quorum.Quorum.{Quorum}

abbrev pub held_by : Quorum → List Held
held_by h = four_held h.p h.q h.r h.s h.pieces.w.now h.pieces.x.now h.pieces.y.now h.pieces.z.now
