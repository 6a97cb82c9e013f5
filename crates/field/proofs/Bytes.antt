-- Facts of single bytes: multiplication is linear, and any four rows of six are undone.
use Prim.Native.Nat.{ℕ, zero, suc, ◌+◌, ◌-◌, ◌*◌, ◌/◌, ◌%◌, ◌^◌, ◌<◌, ◌≤◌}
use native.Mathlib.Nat.{not-suc-le-zero, zero-mul, one-mul, pow-suc}
use native.Mathlib.Omega.{arith}
use mathlib.Core.Path.{◌≡◌, refl, sym, ◌∙◌, ap, subst}
use mathlib.Core.Logic.{◌⊎◌, inl, inr}
use mathlib.Core.Bool.{Bool, true, false, cond}
use lib.Bits.{bit_xor, xor_lt, xor_assoc, xor_comm, xor_zero_r, xor_shifted}
use lib.Dec.{eqb, ltb, T, eqb→eq, ltb→lt}
use Rattle.field.specs.Field.{double, by, times, Row, dot}

-- the test f passes at each number below n
unfoldable pub below : (ℕ → Bool) → ℕ → Bool
below f zero = true
below f (suc n) = cond (f n) (below f n) false

pub left : (a b : Bool) → T (cond a b false) → T a
left true b t = tt
left false b t = t

pub right : (a b : Bool) → T (cond a b false) → T b
right true b t = t
right false b t = absurd t

pub at : (f : ℕ → Bool) (n : ℕ) → T (below f n) → (k : ℕ) → k < n → T (f k)
unfolding below
at f zero t k h = absurd (not-suc-le-zero h)
at f (suc n) t k h = elim (last k n h) [ inl e ↦ subst (λ m. T (f m)) (sym e) (left (f n) (below f n) t) | inr l ↦ at f n (right (f n) (below f n) t) k l ]
  where
    last : (k n : ℕ) → k < suc n → (k ≡ n) ⊎ (k < n)
    last k n h = grind arith

-- double
double_lt_all : T (below (λ x. ltb (double x) 256) 256)
unfolding below double
double_lt_all = tt

pub double_lt : (x : ℕ) → x < 256 → double x < 256
double_lt x h = ltb→lt (double x) 256 (at (λ x. ltb (double x) 256) 256 double_lt_all x h)

double_xor_all : T (below (λ x. below (λ y. eqb (double (bit_xor x y)) (bit_xor (double x) (double y))) 256) 256)
unfolding below double
double_xor_all = tt

pub double_xor : (x y : ℕ) → x < 256 → y < 256 → double (bit_xor x y) ≡ bit_xor (double x) (double y)
double_xor x y h k =
    eqb→eq (double (bit_xor x y)) (bit_xor (double x) (double y))
    (at (λ y. eqb (double (bit_xor x y)) (bit_xor (double x) (double y))) 256 (at (λ x. below (λ y. eqb (double (bit_xor x y)) (bit_xor (double x) (double y))) 256) 256 double_xor_all x h) y k)

pub swap : (a b c d : ℕ) → bit_xor (bit_xor a b) (bit_xor c d) ≡ bit_xor (bit_xor a c) (bit_xor b d)
swap a b c d = xor_assoc a b (bit_xor c d) ∙ ap (bit_xor a) (sym (xor_assoc b c d) ∙ ap (λ m. bit_xor m d) (xor_comm b c) ∙ xor_assoc c b d) ∙ sym (xor_assoc a c (bit_xor b d))

-- a bit times a byte
bits : (c : ℕ) → (c % 2 ≡ 0) ⊎ (c % 2 ≡ 1)
bits c = grind arith

bit_lt : (b x : ℕ) → (b ≡ 0) ⊎ (b ≡ 1) → x < 256 → b * x < 256
bit_lt b x (inl e) h = let z : b * x ≡ 0 = ap (λ m. m * x) e ∙ zero-mul x in omega arith
bit_lt b x (inr e) h = let z : b * x ≡ x = ap (λ m. m * x) e ∙ one-mul x in omega arith

bit_xor_lem : (b x y : ℕ) → (b ≡ 0) ⊎ (b ≡ 1) → b * bit_xor x y ≡ bit_xor (b * x) (b * y)
bit_xor_lem b x y (inl e) = let z : (n : ℕ) → b * n ≡ 0 = λ n. ap (λ m. m * n) e ∙ zero-mul n in z (bit_xor x y) ∙ sym (ap (λ m. bit_xor m (b * y)) (z x) ∙ z y)
bit_xor_lem b x y (inr e) = let z : (n : ℕ) → b * n ≡ n = λ n. ap (λ m. m * n) e ∙ one-mul n in z (bit_xor x y) ∙ sym (ap (λ m. bit_xor m (b * y)) (z x) ∙ ap (bit_xor x) (z y))

pub by_lt : (n c x : ℕ) → x < 256 → by n c x < 256
unfolding by
by_lt zero c x h = omega arith
by_lt (suc n) c x h = xor_lt 8 (double (by n (c / 2) x)) (c % 2 * x) (double_lt (by n (c / 2) x) (by_lt n (c / 2) x h)) (bit_lt (c % 2) x (bits c) h)

by_xor : (n c x y : ℕ) → x < 256 → y < 256 → by n c (bit_xor x y) ≡ bit_xor (by n c x) (by n c y)
unfolding by
by_xor zero c x y h k = refl
by_xor (suc n) c x y h k =
    ap (λ m. bit_xor (double m) (c % 2 * bit_xor x y)) (by_xor n (c / 2) x y h k)
    ∙ ap (λ m. bit_xor m (c % 2 * bit_xor x y)) (double_xor (by n (c / 2) x) (by n (c / 2) y) (by_lt n (c / 2) x h) (by_lt n (c / 2) y k))
    ∙ ap (bit_xor (bit_xor (double (by n (c / 2) x)) (double (by n (c / 2) y)))) (bit_xor_lem (c % 2) x y (bits c))
    ∙ swap (double (by n (c / 2) x)) (double (by n (c / 2) y)) (c % 2 * x) (c % 2 * y)

-- functions of four bytes that take sums to sums
pub record Lin (F : ℕ → ℕ → ℕ → ℕ → ℕ) : Type 0 where
  pub small : (x y z w : ℕ) → x < 256 → y < 256 → z < 256 → w < 256 → F x y z w < 256
  pub sum : (x y z w p q r s : ℕ) → x < 256 → y < 256 → z < 256 → w < 256 → p < 256 → q < 256 → r < 256 → s < 256 → F (bit_xor x p) (bit_xor y q) (bit_xor z r) (bit_xor w s) ≡ bit_xor (F x y z w) (F p q r s)

pub first_lin : Lin (λ x y z w. x)
first_lin = record { small = λ x y z w a b c d. a; sum = λ x y z w p q r s a b c d e f g h. refl }

pub second_lin : Lin (λ x y z w. y)
second_lin = record { small = λ x y z w a b c d. b; sum = λ x y z w p q r s a b c d e f g h. refl }

pub third_lin : Lin (λ x y z w. z)
third_lin = record { small = λ x y z w a b c d. c; sum = λ x y z w p q r s a b c d e f g h. refl }

pub fourth_lin : Lin (λ x y z w. w)
fourth_lin = record { small = λ x y z w a b c d. d; sum = λ x y z w p q r s a b c d e f g h. refl }

pub dot_lin : (m : Row) → Lin (dot m)
unfolding dot times
dot_lin m = record {
  small = λ x y z w hx hy hz hw.
      xor_lt 8 (times m.a x) (bit_xor (times m.b y) (bit_xor (times m.c z) (times m.d w))) (by_lt 8 m.a x hx)
      (xor_lt 8 (times m.b y) (bit_xor (times m.c z) (times m.d w)) (by_lt 8 m.b y hy)
      (xor_lt 8 (times m.c z) (times m.d w) (by_lt 8 m.c z hz) (by_lt 8 m.d w hw)));
  sum = λ x y z w p q r s hx hy hz hw hp hq hr hs.
      let ea = by_xor 8 m.a x p hx hp in
      let eb = by_xor 8 m.b y q hy hq in
      let ec = by_xor 8 m.c z r hz hr in
      let ed = by_xor 8 m.d w s hw hs in
      let s1 = swap (by 8 m.c z) (by 8 m.c r) (by 8 m.d w) (by 8 m.d s) in
      let s2 = swap (by 8 m.b y) (by 8 m.b q) (bit_xor (by 8 m.c z) (by 8 m.d w)) (bit_xor (by 8 m.c r) (by 8 m.d s)) in
      let s3 = swap (by 8 m.a x) (by 8 m.a p) (bit_xor (by 8 m.b y) (bit_xor (by 8 m.c z) (by 8 m.d w))) (bit_xor (by 8 m.b q) (bit_xor (by 8 m.c r) (by 8 m.d s))) in
      cc;
}

pub comp_lin : (F G H I J : ℕ → ℕ → ℕ → ℕ → ℕ) → Lin F → Lin G → Lin H → Lin I → Lin J → Lin (λ x y z w. F (G x y z w) (H x y z w) (I x y z w) (J x y z w))
comp_lin F G H I J f g h i j = record {
  small = λ x y z w hx hy hz hw. f.small (G x y z w) (H x y z w) (I x y z w) (J x y z w) (g.small x y z w hx hy hz hw) (h.small x y z w hx hy hz hw) (i.small x y z w hx hy hz hw) (j.small x y z w hx hy hz hw);
  sum = λ x y z w p q r s hx hy hz hw hp hq hr hs.
      let eg = g.sum x y z w p q r s hx hy hz hw hp hq hr hs in
      let eh = h.sum x y z w p q r s hx hy hz hw hp hq hr hs in
      let ei = i.sum x y z w p q r s hx hy hz hw hp hq hr hs in
      let ej = j.sum x y z w p q r s hx hy hz hw hp hq hr hs in
      let last = f.sum (G x y z w) (H x y z w) (I x y z w) (J x y z w) (G p q r s) (H p q r s) (I p q r s) (J p q r s) (g.small x y z w hx hy hz hw) (h.small x y z w hx hy hz hw) (i.small x y z w hx hy hz hw) (j.small x y z w hx hy hz hw) (g.small p q r s hp hq hr hs) (h.small p q r s hp hq hr hs) (i.small p q r s hp hq hr hs) (j.small p q r s hp hq hr hs) in
      cc;
}

-- two such functions of one byte agree where they do at 0 and at the powers of 2
unfoldable pub test1 : (ℕ → ℕ) → (ℕ → ℕ) → Bool
test1 f g = cond (eqb (f 0) (g 0)) (below (λ k. eqb (f (2 ^ k)) (g (2 ^ k))) 8) false

powers : T (below (λ k. ltb (2 ^ k) 256) 8)
unfolding below
powers = tt

abbrev pub Sum1 : (ℕ → ℕ) → Type 0
Sum1 f = (x y : ℕ) → x < 256 → y < 256 → f (bit_xor x y) ≡ bit_xor (f x) (f y)

split : (x n : ℕ) → (x < n) ⊎ (n ≤ x)
split x n = grind arith

either : (x k : ℕ) → x < 2 ^ suc k → (x < 2 ^ k) ⊎ ((y : ℕ) × (y < 2 ^ k) × (x ≡ bit_xor (2 ^ k) y))
either x k h =
    let e = pow-suc 2 k in
    elim (split x (2 ^ k)) [
      | inl l ↦ inl l
      | inr g ↦
          let l : x - 2 ^ k < 2 ^ k = omega arith in
          let o = one-mul (2 ^ k) in
          let j = xor_shifted 1 k (x - 2 ^ k) l in
          let j' : bit_xor (2 ^ k) (x - 2 ^ k) ≡ 1 * 2 ^ k + (x - 2 ^ k) = sym (ap (λ m. bit_xor m (x - 2 ^ k)) o) ∙ j in
          inr (x - 2 ^ k, l, omega arith)
    ]

basis : (f g : ℕ → ℕ) → Sum1 f → Sum1 g → T (test1 f g) → (k : ℕ) → k ≤ 8 → (x : ℕ) → x < 2 ^ k → f x ≡ g x
unfolding test1
basis f g fs gs t zero le x h =
    let z : x ≡ 0 = omega arith in
    let e = eqb→eq (f 0) (g 0) (left (eqb (f 0) (g 0)) (below (λ k. eqb (f (2 ^ k)) (g (2 ^ k))) 8) t) in
    cc
basis f g fs gs t (suc k) le x h =
    elim (either x k h) [
      | inl l ↦ basis f g fs gs t k (omega arith) x l
      | inr q ↦
          let small : 2 ^ k < 256 = ltb→lt (2 ^ k) 256 (at (λ k. ltb (2 ^ k) 256) 8 powers k (omega arith)) in
          let there : f (2 ^ k) ≡ g (2 ^ k) = eqb→eq (f (2 ^ k)) (g (2 ^ k)) (at (λ k. eqb (f (2 ^ k)) (g (2 ^ k))) 8 (right (eqb (f 0) (g 0)) (below (λ k. eqb (f (2 ^ k)) (g (2 ^ k))) 8) t) k (omega arith)) in
          let down : f q.0 ≡ g q.0 = basis f g fs gs t k (omega arith) q.0 q.1 in
          let ylt : q.0 < 256 = omega (arith, q.1) in
          let ef = fs (2 ^ k) q.0 small ylt in
          let eg = gs (2 ^ k) q.0 small ylt in
          let xe = q.2 in
          cc
    ]

-- two linear functions agree where they do on each byte alone
unfoldable pub test : (ℕ → ℕ → ℕ → ℕ → ℕ) → (ℕ → ℕ → ℕ → ℕ → ℕ) → Bool
test F G = cond (test1 (λ x. F x 0 0 0) (λ x. G x 0 0 0)) (cond (test1 (λ x. F 0 x 0 0) (λ x. G 0 x 0 0)) (cond (test1 (λ x. F 0 0 x 0) (λ x. G 0 0 x 0)) (test1 (λ x. F 0 0 0 x) (λ x. G 0 0 0 x)) false) false) false

none : 0 < 256
none = omega arith

apart : (F : ℕ → ℕ → ℕ → ℕ → ℕ) → Lin F → (x y z w : ℕ) → x < 256 → y < 256 → z < 256 → w < 256 → F x y z w ≡ bit_xor (F x 0 0 0) (bit_xor (F 0 y 0 0) (bit_xor (F 0 0 z 0) (F 0 0 0 w)))
apart F l x y z w hx hy hz hw =
    let zx = xor_zero_r x in
    let zy = xor_zero_r y in
    let zz = xor_zero_r z in
    let a : F (bit_xor x 0) (bit_xor 0 y) (bit_xor 0 z) (bit_xor 0 w) ≡ bit_xor (F x 0 0 0) (F 0 y z w) = l.sum x 0 0 0 0 y z w hx none none none none hy hz hw in
    let b : F 0 (bit_xor y 0) (bit_xor 0 z) (bit_xor 0 w) ≡ bit_xor (F 0 y 0 0) (F 0 0 z w) = l.sum 0 y 0 0 0 0 z w none hy none none none none hz hw in
    let c : F 0 0 (bit_xor z 0) (bit_xor 0 w) ≡ bit_xor (F 0 0 z 0) (F 0 0 0 w) = l.sum 0 0 z 0 0 0 0 w none none hz none none none none hw in
    cc

pub agree : (F G : ℕ → ℕ → ℕ → ℕ → ℕ) → Lin F → Lin G → T (test F G) → (x y z w : ℕ) → x < 256 → y < 256 → z < 256 → w < 256 → F x y z w ≡ G x y z w
unfolding test
agree F G f g t x y z w hx hy hz hw =
    let t1 = test1 (λ x. F x 0 0 0) (λ x. G x 0 0 0) in
    let t2 = test1 (λ x. F 0 x 0 0) (λ x. G 0 x 0 0) in
    let t3 = test1 (λ x. F 0 0 x 0) (λ x. G 0 0 x 0) in
    let t4 = test1 (λ x. F 0 0 0 x) (λ x. G 0 0 0 x) in
    let r1 = right t1 (cond t2 (cond t3 t4 false) false) t in
    let r2 = right t2 (cond t3 t4 false) r1 in
    let ea : F x 0 0 0 ≡ G x 0 0 0 = basis (λ x. F x 0 0 0) (λ x. G x 0 0 0) (λ x y h k. f.sum x 0 0 0 y 0 0 0 h none none none k none none none) (λ x y h k. g.sum x 0 0 0 y 0 0 0 h none none none k none none none) (left t1 (cond t2 (cond t3 t4 false) false) t) 8 (omega arith) x hx in
    let eb : F 0 y 0 0 ≡ G 0 y 0 0 = basis (λ x. F 0 x 0 0) (λ x. G 0 x 0 0) (λ x y h k. f.sum 0 x 0 0 0 y 0 0 none h none none none k none none) (λ x y h k. g.sum 0 x 0 0 0 y 0 0 none h none none none k none none) (left t2 (cond t3 t4 false) r1) 8 (omega arith) y hy in
    let ec : F 0 0 z 0 ≡ G 0 0 z 0 = basis (λ x. F 0 0 x 0) (λ x. G 0 0 x 0) (λ x y h k. f.sum 0 0 x 0 0 0 y 0 none none h none none none k none) (λ x y h k. g.sum 0 0 x 0 0 0 y 0 none none h none none none k none) (left t3 t4 r2) 8 (omega arith) z hz in
    let ed : F 0 0 0 w ≡ G 0 0 0 w = basis (λ x. F 0 0 0 x) (λ x. G 0 0 0 x) (λ x y h k. f.sum 0 0 0 x 0 0 0 y none none none h none none none k) (λ x y h k. g.sum 0 0 0 x 0 0 0 y none none none h none none none k) (right t3 t4 r2) 8 (omega arith) w hw in
    let af = apart F f x y z w hx hy hz hw in
    let ag = apart G g x y z w hx hy hz hw in
    cc
