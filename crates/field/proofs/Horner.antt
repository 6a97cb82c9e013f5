-- The bytes of the two parities as sums and doublings, and products bit by bit.
-- Assumes nothing.
use Prim.Native.Nat.{ℕ, suc, ◌+◌, ◌-◌, ◌*◌, ◌/◌, ◌%◌, ◌^◌, ◌<◌}
use native.Mathlib.Omega.{arith}
use mathlib.Core.Path.{◌≡◌, sym, ◌∙◌, ap}
use native.Mathlib.Nat.{div-div-eq-div-mul, pow-suc, div-one}
use native.Mathlib.Numerals.{add-one}
use lib.Bits.{bit_xor, xor_lt}
use Rattle.field.specs.Field.{double, by, times, Row, dot, partial}
use Rattle.field.specs.Stripe.{generator}
use Rattle.field.proofs.Bytes.{below, test, test1, Lin, dot_lin, agree, double_lt, double_xor, by_lt, swap, first_lin, second_lin, third_lin, fourth_lin}

-- a sum of two linear functions, and twice one
pub xor_lin : (F G : ℕ → ℕ → ℕ → ℕ → ℕ) → Lin F → Lin G → Lin (λ x y z w. bit_xor (F x y z w) (G x y z w))
xor_lin F G f g = record {
  small = λ x y z w hx hy hz hw. xor_lt 8 (F x y z w) (G x y z w) (f.small x y z w hx hy hz hw) (g.small x y z w hx hy hz hw);
  sum = λ x y z w p q r s hx hy hz hw hp hq hr hs.
      let ef = f.sum x y z w p q r s hx hy hz hw hp hq hr hs in
      let eg = g.sum x y z w p q r s hx hy hz hw hp hq hr hs in
      let e = swap (F x y z w) (F p q r s) (G x y z w) (G p q r s) in
      cc;
}

pub double_lin : (F : ℕ → ℕ → ℕ → ℕ → ℕ) → Lin F → Lin (λ x y z w. double (F x y z w))
double_lin F f = record {
  small = λ x y z w hx hy hz hw. double_lt (F x y z w) (f.small x y z w hx hy hz hw);
  sum = λ x y z w p q r s hx hy hz hw hp hq hr hs.
      let ef = f.sum x y z w p q r s hx hy hz hw hp hq hr hs in
      let e = double_xor (F x y z w) (F p q r s) (f.small x y z w hx hy hz hw) (f.small p q r s hp hq hr hs) in
      cc;
}

abbrev pub sum4 : ℕ → ℕ → ℕ → ℕ → ℕ
sum4 w x y z = bit_xor (bit_xor (bit_xor w x) y) z

abbrev pub horner : ℕ → ℕ → ℕ → ℕ → ℕ
horner w x y z = bit_xor (double (bit_xor (double (bit_xor (double z) y)) x)) w

sum4_lin : Lin sum4
sum4_lin = xor_lin _ _ (xor_lin _ _ (xor_lin _ _ first_lin second_lin) third_lin) fourth_lin

horner_lin : Lin horner
horner_lin = xor_lin _ _ (double_lin _ (xor_lin _ _ (double_lin _ (xor_lin _ _ (double_lin _ fourth_lin) third_lin)) second_lin)) first_lin

pub p_is : (w x y z : ℕ) → w < 256 → x < 256 → y < 256 → z < 256 → sum4 w x y z ≡ dot (generator 4) w x y z
unfolding below test test1 dot times by double
p_is = agree sum4 (dot (generator 4)) sum4_lin (dot_lin (generator 4)) tt

pub q_is : (w x y z : ℕ) → w < 256 → x < 256 → y < 256 → z < 256 → horner w x y z ≡ dot (generator 5) w x y z
unfolding below test test1 dot times by double
q_is = agree horner (dot (generator 5)) horner_lin (dot_lin (generator 5)) tt

-- a product by one bit more
pub by_more : (k c x : ℕ) → k < 8 → bit_xor (double (by k (c / 2 ^ (8 - k)) x)) (c / 2 ^ (7 - k) % 2 * x) ≡ by (k + 1) (c / 2 ^ (8 - (k + 1))) x
unfolding by
by_more k c x lt =
    let a : 8 - (k + 1) ≡ 7 - k = omega arith in
    let b : 8 - k ≡ suc (7 - k) = omega arith in
    let d : c / 2 ^ (7 - k) / 2 ≡ c / 2 ^ (8 - k) = div-div-eq-div-mul c (2 ^ (7 - k)) 2 ∙ ap (λ n. c / n) (sym (pow-suc 2 (7 - k)) ∙ ap (λ n. 2 ^ n) (sym b)) in
    let f : by (k + 1) (c / 2 ^ (8 - (k + 1))) x ≡ by (suc k) (c / 2 ^ (7 - k)) x = ap (λ n. by n (c / 2 ^ (8 - (k + 1))) x) (add-one k) ∙ ap (λ n. by (suc k) (c / 2 ^ n) x) a in
    sym (f ∙ ap (λ n. bit_xor (double (by k n x)) (c / 2 ^ (7 - k) % 2 * x)) d)

pub by_all : (c x : ℕ) → by 8 (c / 2 ^ (8 - 8)) x ≡ times c x
unfolding times
by_all c x = ap (λ n. by 8 n x) (div-one c)

-- what one bit of each coefficient adds
abbrev pub bits : Row → ℕ → ℕ → ℕ → ℕ → ℕ → ℕ
bits m k w x y z = bit_xor (m.a / 2 ^ k % 2 * w) (bit_xor (m.b / 2 ^ k % 2 * x) (bit_xor (m.c / 2 ^ k % 2 * y) (m.d / 2 ^ k % 2 * z)))

pub partial_more : (m : Row) (k : ℕ) → k < 8 → (w x y z : ℕ) → w < 256 → x < 256 → y < 256 → z < 256 → bit_xor (double (partial m k w x y z)) (bits m (7 - k) w x y z) ≡ partial m (k + 1) w x y z
partial_more m k lt w x y z hw hx hy hz =
    let a = by k (m.a / 2 ^ (8 - k)) w in
    let b = by k (m.b / 2 ^ (8 - k)) x in
    let c = by k (m.c / 2 ^ (8 - k)) y in
    let d = by k (m.d / 2 ^ (8 - k)) z in
    let la = by_lt k (m.a / 2 ^ (8 - k)) w hw in
    let lb = by_lt k (m.b / 2 ^ (8 - k)) x hx in
    let lc = by_lt k (m.c / 2 ^ (8 - k)) y hy in
    let ld = by_lt k (m.d / 2 ^ (8 - k)) z hz in
    let lcd = xor_lt 8 c d lc ld in
    let e1 = double_xor c d lc ld in
    let e2 = double_xor b (bit_xor c d) lb lcd in
    let e3 = double_xor a (bit_xor b (bit_xor c d)) la (xor_lt 8 b (bit_xor c d) lb lcd) in
    let p = m.a / 2 ^ (7 - k) % 2 * w in
    let q = m.b / 2 ^ (7 - k) % 2 * x in
    let r = m.c / 2 ^ (7 - k) % 2 * y in
    let s = m.d / 2 ^ (7 - k) % 2 * z in
    let s1 = swap (double c) (double d) r s in
    let s2 = swap (double b) (bit_xor (double c) (double d)) q (bit_xor r s) in
    let s3 = swap (double a) (bit_xor (double b) (bit_xor (double c) (double d))) p (bit_xor q (bit_xor r s)) in
    let ma = by_more k m.a w lt in
    let mb = by_more k m.b x lt in
    let mc = by_more k m.c y lt in
    let md = by_more k m.d z lt in
    cc

pub partial_all : (m : Row) (w x y z : ℕ) → partial m 8 w x y z ≡ dot m w x y z
unfolding dot
partial_all m w x y z =
    let a = by_all m.a w in let b = by_all m.b x in let c = by_all m.c y in let d = by_all m.d z in cc
