-- Four held pieces of one length, as the code has them, and the piece at a place.
-- Assumes nothing.
use Prim.Native.Nat.{ℕ, suc, ◌-◌, ◌<◌}
use native.Mathlib.Omega.{arith}
use mathlib.Core.Path.{◌≡◌, refl, sym, ◌∙◌, ap, subst}
use mathlib.Core.Logic.{◌≢◌}
use mathlib.Core.List.{List, [], ◌∷◌}
use lib.ListN.{length}
use Rattle.field.specs.Field.{dot, map4}
use Rattle.field.specs.Stripe.{encoded, decoded, four_held, rebuilt, lost_row, generator}
use Rattle.field.proofs.Pieces.{Good}
use Rattle.elements.specs.Bytes.{AreBytes}
use Rattle.pieces.specs.Quorums.{held_by}
use Rattle.pieces.specs.declared.quorum.Quorum.{Quorum}
use Rattle.field.proofs.Rebuilt.{by_row, first_held, second_held, third_held, fourth_held, lost_row_lem, other_lost}

good_bytes : (x : List ℕ) → AreBytes x → Good (length x) x
good_bytes [] f = tt
good_bytes (b ∷ x) f = (f 0, good_bytes x (λ k. f (suc k)))

pub good : (n : ℕ) (x : List ℕ) → length x ≡ n → AreBytes x → Good n x
good n x e f = subst (λ m. Good m x) e (good_bytes x f)

-- four places that rise, and four pieces of n bytes
pub record RisingFour (p q r s n : ℕ) (x y z w : List ℕ) : Type 0 where
  pub pq : p < q
  pub qr : q < r
  pub rs : r < s
  pub s6 : s < 6
  pub gx : Good n x
  pub gy : Good n y
  pub gz : Good n z
  pub gw : Good n w

pub rising_four : (h : Quorum) → RisingFour h.p h.q h.r h.s (length h.pieces.w.now) h.pieces.w.now h.pieces.x.now h.pieces.y.now h.pieces.z.now
rising_four h =
    let n = length h.pieces.w.now in
    let one_length = h.pieces.same_length in
    record {
      pq = h.rising.0;
      qr = h.rising.1.0;
      rs = h.rising.1.1.0;
      s6 = h.rising.1.1.1;
      gx = good n h.pieces.w.now refl h.pieces.bytes.0;
      gy = good n h.pieces.x.now one_length.0 h.pieces.bytes.1.0;
      gz = good n h.pieces.y.now one_length.1.0 h.pieces.bytes.1.1.0;
      gw = good n h.pieces.z.now one_length.1.1 h.pieces.bytes.1.1.1;
    }

module _ {p q r s n : ℕ} {x y z w : List ℕ} (h : RisingFour p q r s n x y z w) where
  pub is_first : (t : ℕ) → t ≡ p → x ≡ rebuilt (four_held p q r s x y z w) t
  is_first t e = sym (ap (rebuilt (four_held p q r s x y z w)) e ∙ first_held p q r s h.pq h.qr h.rs h.s6 n x y z w h.gx h.gy h.gz h.gw)

  pub is_second : (t : ℕ) → t ≡ q → y ≡ rebuilt (four_held p q r s x y z w) t
  is_second t e = sym (ap (rebuilt (four_held p q r s x y z w)) e ∙ second_held p q r s h.pq h.qr h.rs h.s6 n x y z w h.gx h.gy h.gz h.gw)

  pub is_third : (t : ℕ) → t ≡ r → z ≡ rebuilt (four_held p q r s x y z w) t
  is_third t e = sym (ap (rebuilt (four_held p q r s x y z w)) e ∙ third_held p q r s h.pq h.qr h.rs h.s6 n x y z w h.gx h.gy h.gz h.gw)

  pub is_fourth : (t : ℕ) → t ≡ s → w ≡ rebuilt (four_held p q r s x y z w) t
  is_fourth t e = sym (ap (rebuilt (four_held p q r s x y z w)) e ∙ fourth_held p q r s h.pq h.qr h.rs h.s6 n x y z w h.gx h.gy h.gz h.gw)

  pub is_lost : (t : ℕ) → t < 6 → t ≢ p → t ≢ q → t ≢ r → t ≢ s → map4 (dot (lost_row t (15 - p - q - r - s - t))) x y z w ≡ rebuilt (four_held p q r s x y z w) t
  is_lost t t6 np nq nr ns =
      sym (by_row p q r s h.pq h.qr h.rs h.s6 n x y z w h.gx h.gy h.gz h.gw t t6
      ∙ ap (λ m. map4 (dot m) x y z w) (lost_row_lem p q r s t h.pq h.qr h.rs h.s6 t6 np nq nr ns))

  -- two lost data pieces, i and j
  module _ (i j : ℕ) (hi : i < 4) (hj : j < 4) (ij : i ≢ j) (ip : i ≢ p) (iq : i ≢ q) (jp : j ≢ p) (jq : j ≢ q) (r4 : r ≡ 4) where
    s5 : s ≡ 5
    s5 = let a = h.rs in let b = h.s6 in omega arith

    pub is_one_lost : map4 (dot (lost_row i j)) x y z w ≡ rebuilt (four_held p q r s x y z w) i
    is_one_lost =
        let a = h.pq in
        let b = h.qr in
        let c = s5 in
        let e : 15 - p - q - r - s - i ≡ j = omega arith in
        ap (λ o. map4 (dot (lost_row i o)) x y z w) (sym e) ∙ is_lost i (omega arith) ip iq (omega arith) (omega arith)

    pub is_other_lost : map4 (dot (generator 4)) x y z (map4 (dot (lost_row j i)) x y z w) ≡ rebuilt (four_held p q r s x y z w) i
    is_other_lost = other_lost i j hi hj ij n x y z w h.gx h.gy h.gz h.gw ∙ is_one_lost

-- the first four pieces made anew are the data
pub all_data : (p q r s : ℕ) (x y z w a b c d : List ℕ) → let hs = four_held p q r s x y z w in a ≡ rebuilt hs 0 → b ≡ rebuilt hs 1 → c ≡ rebuilt hs 2 → d ≡ rebuilt hs 3 → a ∷ b ∷ c ∷ d ∷ [] ≡ decoded hs
unfolding encoded decoded
all_data p q r s x y z w a b c d ea eb ec ed = cc

-- the same of a quorum
pub quorum_data : (h : Quorum) {a b c d : List ℕ} → let hs = held_by h in a ≡ rebuilt hs 0 → b ≡ rebuilt hs 1 → c ≡ rebuilt hs 2 → d ≡ rebuilt hs 3 → a ∷ b ∷ c ∷ d ∷ [] ≡ decoded hs
quorum_data h {a} {b} {c} {d} = all_data h.p h.q h.r h.s h.pieces.w.now h.pieces.x.now h.pieces.y.now h.pieces.z.now a b c d
