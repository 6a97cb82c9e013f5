-- Four pieces that are at hand, in the words of the code.
-- Assumes nothing.
use Rattle.std.specs.Prelude.{Bool, List, [], ◌∷◌, length}
use Rattle.elements.specs.Accepted.{all_of, rising}
use Rattle.field.specs.Stripe.{four_held}
use Rattle.field.specs.Stripe as stripe
use Rattle.pieces.specs.declared.held.Held.{Held}

abbrev pub held_four : Held → Held → Held → Held → List stripe.Held
held_four w x y z = four_held w.place x.place y.place z.place w.bytes.now x.bytes.now y.bytes.now z.bytes.now

-- their places rise, and are places of a stripe
abbrev pub rise : Held → Held → Held → Held → Bool
rise w x y z = rising w.place x.place y.place z.place

abbrev pub one_length : Held → Held → Held → Held → Bool
one_length w x y z = all_of (length w.bytes.now) (x.bytes.now ∷ y.bytes.now ∷ z.bytes.now ∷ [])
