-- What a vector's operations do to each of its lanes.
-- Assumes nothing.
use Rattle.std.proofs.Common.{◌≡◌, ℕ, zero, suc, ◌+◌, ◌-◌, ◌/◌, ◌%◌, ◌^◌, ◌<◌, T, eqb, List, [], ◌∷◌, map, length, replicate, refl, ap, ◌∙◌, arith, eqb→eq, w8, Fits}
use native.Mathlib.Nat.{suc_inj}
use lib.Bits.{bit_xor, bit_and}
use lib.Lanes.{zip2, Each1}
use Rattle.field.specs.Field.{double, dot, map4}
use Rattle.field.specs.Stripe.{generator}
use Rattle.field.proofs.Bytes.{below, at}
use Rattle.field.proofs.Horner.{sum4, horner, p_is, q_is}

-- a vector's lanes: their number, and that each is a byte
abbrev pub Word : ℕ → List ℕ → Type 0
Word n x = (length x ≡ n) × Each1 (Fits w8) x

-- a lane of a doubling, as the vector's operations work it out
abbrev lane : ℕ → ℕ
lane x = bit_xor ((x + x) % 256) (bit_and ((0 + (256 - x / 2 ^ 7)) % 256) 29)

lane_all : T (below (λ x. eqb (lane x) (double x)) 256)
unfolding below double
lane_all = tt

lane_is : (x : ℕ) → x < 256 → lane x ≡ double x
lane_is x h = eqb→eq (lane x) (double x) (at (λ x. eqb (lane x) (double x)) 256 lane_all x h)

pub doubled_lanes : (n : ℕ) (x : List ℕ) → length x ≡ n → Each1 (Fits w8) x →
    zip2 bit_xor (zip2 (λ a b. (a + b) % 256) x x)
    (zip2 bit_and (zip2 (λ a b. (a + (256 - b)) % 256) (replicate n 0) (zip2 (λ a b. a / 2 ^ b) x (replicate n 7))) (replicate n 29)) ≡ map double x
doubled_lanes n [] e f = refl
doubled_lanes zero (x ∷ xs) e f = absurd (omega arith)
doubled_lanes (suc n) (x ∷ xs) e f = let h = lane_is x f.0.fits in let t = doubled_lanes n xs (suc_inj e) f.1 in cc

-- a function of four lanes that is F at bytes, over four vectors
module _ (F G : ℕ → ℕ → ℕ → ℕ → ℕ) (is : (w x y z : ℕ) → w < 256 → x < 256 → y < 256 → z < 256 → F w x y z ≡ G w x y z) where
  pub map4_is : (n : ℕ) (w x y z : List ℕ) → Word n w → Word n x → Word n y → Word n z → map4 F w x y z ≡ map4 G w x y z
  unfolding map4
  map4_is n [] x y z fw fx fy fz = refl
  map4_is zero (a ∷ w) x y z fw fx fy fz = absurd (omega (arith, fw.0))
  map4_is (suc n) (a ∷ w) [] y z fw fx fy fz = absurd (omega (arith, fx.0))
  map4_is (suc n) (a ∷ w) (b ∷ x) [] z fw fx fy fz = absurd (omega (arith, fy.0))
  map4_is (suc n) (a ∷ w) (b ∷ x) (c ∷ y) [] fw fx fy fz = absurd (omega (arith, fz.0))
  map4_is (suc n) (a ∷ w) (b ∷ x) (c ∷ y) (d ∷ z) fw fx fy fz =
      let h = is a b c d fw.1.0.fits fx.1.0.fits fy.1.0.fits fz.1.0.fits in
      let t = map4_is n w x y z (suc_inj fw.0, fw.1.1) (suc_inj fx.0, fx.1.1) (suc_inj fy.0, fy.1.1) (suc_inj fz.0, fz.1.1) in
      cc

sum_map : (n : ℕ) (w x y z : List ℕ) → Word n w → Word n x → Word n y → Word n z → zip2 bit_xor (zip2 bit_xor (zip2 bit_xor w x) y) z ≡ map4 sum4 w x y z
unfolding map4
sum_map n [] x y z fw fx fy fz = refl
sum_map zero (a ∷ w) x y z fw fx fy fz = absurd (omega (arith, fw.0))
sum_map (suc n) (a ∷ w) [] y z fw fx fy fz = absurd (omega (arith, fx.0))
sum_map (suc n) (a ∷ w) (b ∷ x) [] z fw fx fy fz = absurd (omega (arith, fy.0))
sum_map (suc n) (a ∷ w) (b ∷ x) (c ∷ y) [] fw fx fy fz = absurd (omega (arith, fz.0))
sum_map (suc n) (a ∷ w) (b ∷ x) (c ∷ y) (d ∷ z) fw fx fy fz =
    ap (λ l. sum4 a b c d ∷ l) (sum_map n w x y z (suc_inj fw.0, fw.1.1) (suc_inj fx.0, fx.1.1) (suc_inj fy.0, fy.1.1) (suc_inj fz.0, fz.1.1))

horner_map : (n : ℕ) (w x y z : List ℕ) → Word n w → Word n x → Word n y → Word n z →
    zip2 bit_xor (map double (zip2 bit_xor (map double (zip2 bit_xor (map double z) y)) x)) w ≡ map4 horner w x y z
unfolding map4
horner_map n [] [] [] [] fw fx fy fz = refl
horner_map n [] [] [] (d ∷ z) fw fx fy fz = absurd (omega (arith, fw.0, fz.0))
horner_map n [] [] (c ∷ y) z fw fx fy fz = absurd (omega (arith, fw.0, fy.0))
horner_map n [] (b ∷ x) y z fw fx fy fz = absurd (omega (arith, fw.0, fx.0))
horner_map zero (a ∷ w) x y z fw fx fy fz = absurd (omega (arith, fw.0))
horner_map (suc n) (a ∷ w) [] y z fw fx fy fz = absurd (omega (arith, fx.0))
horner_map (suc n) (a ∷ w) (b ∷ x) [] z fw fx fy fz = absurd (omega (arith, fy.0))
horner_map (suc n) (a ∷ w) (b ∷ x) (c ∷ y) [] fw fx fy fz = absurd (omega (arith, fz.0))
horner_map (suc n) (a ∷ w) (b ∷ x) (c ∷ y) (d ∷ z) fw fx fy fz =
    ap (λ l. horner a b c d ∷ l) (horner_map n w x y z (suc_inj fw.0, fw.1.1) (suc_inj fx.0, fx.1.1) (suc_inj fy.0, fy.1.1) (suc_inj fz.0, fz.1.1))

pub summed_lanes : (n : ℕ) (w x y z : List ℕ) → Word n w → Word n x → Word n y → Word n z → zip2 bit_xor (zip2 bit_xor (zip2 bit_xor w x) y) z ≡ map4 (dot (generator 4)) w x y z
summed_lanes n w x y z fw fx fy fz = sum_map n w x y z fw fx fy fz ∙ map4_is sum4 (dot (generator 4)) p_is n w x y z fw fx fy fz

pub weighted_lanes : (n : ℕ) (w x y z : List ℕ) → Word n w → Word n x → Word n y → Word n z →
    zip2 bit_xor (map double (zip2 bit_xor (map double (zip2 bit_xor (map double z) y)) x)) w ≡ map4 (dot (generator 5)) w x y z
weighted_lanes n w x y z fw fx fy fz = horner_map n w x y z fw fx fy fz ∙ map4_is horner (dot (generator 5)) q_is n w x y z fw fx fy fz
