use Rattle.std.proofs.Common.{◌≡◌, ◌≢◌, ◌<◌, ◌∙◌, ap, refl, arith}
use Rattle.field.specs.Field.{dot, map4}
use Rattle.field.specs.Stripe.{generator}
use Rattle.pieces.proofs.Pieces.{rising_four, is_first, is_second, is_one_lost, is_other_lost}
use Rattle.pieces.proofs.quorum.Quorum.two_lost.Goals as goal

pub returns : goal.returns
returns c =
    let h = c.args.self.now in
    let four = rising_four h in
    let i = c.args.i in
    let j = c.args.j in
    let hi : i < 4 = omega arith in
    let hj : j < 4 = omega arith in
    let ij : i ≢ j = omega arith in
    let ji : j ≢ i = omega arith in
    let ip : i ≢ h.p = omega arith in
    let iq : i ≢ h.q = omega arith in
    let jp : j ≢ h.p = omega arith in
    let jq : j ≢ h.q = omega arith in
    let r4 : h.r ≡ 4 = omega arith in
    record {
      held_p = c.copy_from_slice.ensures.after ∙ is_first four _ refl;
      held_q = c.copy_from_slice-2.ensures.after ∙ is_second four _ refl;
      lost_i =
          c.blend.ensures ∙ ap (map4 (dot (generator 4)) h.pieces.w.now h.pieces.x.now h.pieces.y.now) c.fill_lost.ensures
          ∙ is_other_lost four i j hi hj ij ip iq jp jq r4;
      lost_j = c.fill_lost.ensures ∙ is_one_lost four j i hj hi ji jp jq ip iq r4;
    }
