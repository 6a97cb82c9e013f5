-- Four vectors blended by four coefficients, one bit of the coefficients after the other.
-- Assumes nothing.
use Rattle.std.proofs.Common.{◌≡◌, ℕ, zero, suc, ◌+◌, ◌-◌, ◌*◌, ◌/◌, ◌%◌, ◌^◌, ◌<◌, List, [], ◌∷◌, map, length, replicate, refl, ap, ◌∙◌, subst, one-mul, zero-mul, arith}
use native.Mathlib.Nat.{suc_inj}
use lib.Bits.{bit_xor}
use lib.Lanes.{zip2}
use Rattle.field.specs.Field.{double, by, Row, dot, map4, partial}
use Rattle.field.proofs.Horner.{bits, partial_more, partial_all}
use Rattle.elements.proofs.Words.{Word, map4_is}

-- a bit times each lane
pub all_lanes : (b : ℕ) (x : List ℕ) → b ≡ 1 → x ≡ map (λ v. b * v) x
all_lanes b [] e = refl
all_lanes b (v ∷ x) e = let t = all_lanes b x e in let h : b * v ≡ v = ap (λ m. m * v) e ∙ one-mul v in cc

pub no_lanes : (n b : ℕ) (x : List ℕ) → length x ≡ n → b ≡ 0 → replicate n 0 ≡ map (λ v. b * v) x
no_lanes zero b [] l e = refl
no_lanes (suc n) b [] l e = absurd (omega arith)
no_lanes zero b (v ∷ x) l e = absurd (omega arith)
no_lanes (suc n) b (v ∷ x) l e = let t = no_lanes n b x (suc_inj l) e in let h : b * v ≡ 0 = ap (λ m. m * v) e ∙ zero-mul v in cc

-- no bit yet
pub blend_none : (m : Row) (n : ℕ) (w x y z : List ℕ) → length w ≡ n → replicate n 0 ≡ map4 (partial m 0) w x y z
unfolding map4 by
blend_none m zero [] x y z l = refl
blend_none m (suc n) [] x y z l = absurd (omega arith)
blend_none m zero (a ∷ w) x y z l = absurd (omega arith)
blend_none m (suc n) (a ∷ w) x y z l = ap (λ t. 0 ∷ t) (blend_none m n w _ _ _ (suc_inj l))

step_map : (F : ℕ → ℕ → ℕ → ℕ → ℕ) (a b c d : ℕ → ℕ) (n : ℕ) (w x y z : List ℕ) → length w ≡ n → length x ≡ n → length y ≡ n → length z ≡ n →
    zip2 bit_xor (map double (map4 F w x y z)) (zip2 bit_xor (map a w) (zip2 bit_xor (map b x) (zip2 bit_xor (map c y) (map d z))))
    ≡ map4 (λ w x y z. bit_xor (double (F w x y z)) (bit_xor (a w) (bit_xor (b x) (bit_xor (c y) (d z))))) w x y z
unfolding map4
step_map F a b c d n [] x y z lw lx ly lz = refl
step_map F a b c d zero (p ∷ w) x y z lw lx ly lz = absurd (omega arith)
step_map F a b c d (suc n) (p ∷ w) [] y z lw lx ly lz = absurd (omega arith)
step_map F a b c d (suc n) (p ∷ w) (q ∷ x) [] z lw lx ly lz = absurd (omega arith)
step_map F a b c d (suc n) (p ∷ w) (q ∷ x) (r ∷ y) [] lw lx ly lz = absurd (omega arith)
step_map F a b c d (suc n) (p ∷ w) (q ∷ x) (r ∷ y) (s ∷ z) lw lx ly lz =
    ap (λ t. bit_xor (double (F p q r s)) (bit_xor (a p) (bit_xor (b q) (bit_xor (c r) (d s)))) ∷ t) (step_map F a b c d n w x y z (suc_inj lw) (suc_inj lx) (suc_inj ly) (suc_inj lz))

-- one bit more
blend_more : (m : Row) (n k : ℕ) (w x y z : List ℕ) → Word n w → Word n x → Word n y → Word n z → k < 8 →
    zip2 bit_xor (map double (map4 (partial m k) w x y z))
    (zip2 bit_xor (map (λ v. m.a / 2 ^ (7 - k) % 2 * v) w) (zip2 bit_xor (map (λ v. m.b / 2 ^ (7 - k) % 2 * v) x) (zip2 bit_xor (map (λ v. m.c / 2 ^ (7 - k) % 2 * v) y) (map (λ v. m.d / 2 ^ (7 - k) % 2 * v) z))))
    ≡ map4 (partial m (k + 1)) w x y z
blend_more m n k w x y z fw fx fy fz lt =
    step_map (partial m k) _ _ _ _ n w x y z fw.0 fx.0 fy.0 fz.0
    ∙ map4_is (λ w x y z. bit_xor (double (partial m k w x y z)) (bits m (7 - k) w x y z)) (partial m (k + 1)) (partial_more m k lt) n w x y z fw fx fy fz

-- the same, from the bit k down
pub blend_bit : (m : Row) (n k : ℕ) (w x y z : List ℕ) → Word n w → Word n x → Word n y → Word n z → k < 8 →
    zip2 bit_xor (map double (map4 (partial m (7 - k)) w x y z))
    (zip2 bit_xor (map (λ v. m.a / 2 ^ k % 2 * v) w) (zip2 bit_xor (map (λ v. m.b / 2 ^ k % 2 * v) x) (zip2 bit_xor (map (λ v. m.c / 2 ^ k % 2 * v) y) (map (λ v. m.d / 2 ^ k % 2 * v) z))))
    ≡ map4 (partial m (8 - k)) w x y z
blend_bit m n k w x y z fw fx fy fz lt =
    let j : 7 - (7 - k) ≡ k = omega arith in
    let e : 7 - k + 1 ≡ 8 - k = omega arith in
    subst (λ i. zip2 bit_xor (map double (map4 (partial m (7 - k)) w x y z))
    (zip2 bit_xor (map (λ v. m.a / 2 ^ i % 2 * v) w) (zip2 bit_xor (map (λ v. m.b / 2 ^ i % 2 * v) x) (zip2 bit_xor (map (λ v. m.c / 2 ^ i % 2 * v) y) (map (λ v. m.d / 2 ^ i % 2 * v) z))))
    ≡ map4 (partial m (8 - k)) w x y z) j
    (blend_more m n (7 - k) w x y z fw fx fy fz (omega arith) ∙ ap (λ i. map4 (partial m i) w x y z) e)

-- every bit
pub blend_all : (m : Row) (n : ℕ) (w x y z : List ℕ) → Word n w → Word n x → Word n y → Word n z → map4 (partial m 8) w x y z ≡ map4 (dot m) w x y z
blend_all m n w x y z fw fx fy fz = map4_is (partial m 8) (dot m) (λ w x y z hw hx hy hz. partial_all m w x y z) n w x y z fw fx fy fz
