use Rattle.std.proofs.Common.{◌≡◌, ◌*◌, take}
use Rattle.field.specs.Stripe.{parity_p, parity_q}
use Rattle.elements.proofs.parity.encode_vectors.Given as goal

abbrev pub invariant-loop-i : goal.invariant-loop-i
invariant-loop-i l =
    (take (l.i * 32) l.p ≡ take (l.i * 32) (parity_p l.w l.x l.y l.z))
    × (take (l.i * 32) l.q ≡ take (l.i * 32) (parity_q l.w l.x l.y l.z))
