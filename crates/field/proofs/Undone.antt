-- Any four rows of the six are undone by the rows of `inverse`: one computed test over all choices.
use Prim.Native.Nat.{ℕ, ◌<◌}
use native.Mathlib.Omega.{arith}
use mathlib.Core.Path.{◌≡◌}
use mathlib.Core.Bool.{Bool, true, false, cond}
use lib.Dec.{ltb, T, lt→ltb}
use Rattle.field.specs.Field.{double, by, times, Row, dot}
use Rattle.field.specs.Stripe.{Rows, generator, inverse, key_of}
use Rattle.field.proofs.Bytes.{below, left, right, at, Lin, dot_lin, comp_lin, test1, test, agree, first_lin, second_lin, third_lin, fourth_lin}

-- a byte generator of four pieces' bytes
abbrev pub after : ℕ → ℕ → ℕ → ℕ → Row → ℕ → ℕ → ℕ → ℕ → ℕ
after p q r s m x y z w = dot m (dot (generator p) x y z w) (dot (generator q) x y z w) (dot (generator r) x y z w) (dot (generator s) x y z w)

all4 : ℕ → ℕ → ℕ → ℕ → Bool
all4 p q r s =
    let m = inverse (key_of p q r s) in
    cond (test (after p q r s m.w) (λ x y z w. x)) (cond (test (after p q r s m.x) (λ x y z w. y)) (cond (test (after p q r s m.y) (λ x y z w. z)) (test (after p q r s m.z) (λ x y z w. w)) false) false) false

-- the test, of places that rise
rising : ℕ → ℕ → ℕ → ℕ → Bool
rising p q r s = elim (cond (ltb p q) (cond (ltb q r) (ltb r s) false) false) [ true ↦ all4 p q r s | false ↦ true ]

every4 : T (below (λ p. below (λ q. below (λ r. below (λ s. rising p q r s) 6) 6) 6) 6)
unfolding below rising all4 test test1 inverse dot times by double
every4 = tt

pub rises : (b c : Bool) → T b → T (elim b [ true ↦ c | false ↦ true ]) → T c
rises true c t u = u
rises false c t u = absurd t

pub both : (a b : Bool) → T a → T b → T (cond a b false)
both true b t u = u
both false b t u = absurd t

tested : (p q r s : ℕ) → p < q → q < r → r < s → s < 6 → T (all4 p q r s)
unfolding rising
tested p q r s pq qr rs s6 =
    rises (cond (ltb p q) (cond (ltb q r) (ltb r s) false) false) (all4 p q r s)
    (both (ltb p q) (cond (ltb q r) (ltb r s) false) (lt→ltb p q pq) (both (ltb q r) (ltb r s) (lt→ltb q r qr) (lt→ltb r s rs)))
    (at (λ s. rising p q r s) 6 (at (λ r. below (λ s. rising p q r s) 6) 6 (at (λ q. below (λ r. below (λ s. rising p q r s) 6) 6) 6 (at (λ p. below (λ q. below (λ r. below (λ s. rising p q r s) 6) 6) 6) 6 every4 p (omega arith)) q (omega arith)) r (omega arith)) s s6)

abbrev pub Is : (ℕ → ℕ → ℕ → ℕ → ℕ) → (ℕ → ℕ → ℕ → ℕ → ℕ) → Type 0
Is F G = (x y z w : ℕ) → x < 256 → y < 256 → z < 256 → w < 256 → F x y z w ≡ G x y z w

after_lin : (p q r s : ℕ) (m : Row) → Lin (after p q r s m)
after_lin p q r s m = comp_lin (dot m) (dot (generator p)) (dot (generator q)) (dot (generator r)) (dot (generator s)) (dot_lin m) (dot_lin (generator p)) (dot_lin (generator q)) (dot_lin (generator r)) (dot_lin (generator s))

pub record Undone (p q r s : ℕ) : Type 0 where
  pub one : Is (after p q r s (inverse (key_of p q r s)).w) (λ x y z w. x)
  pub two : Is (after p q r s (inverse (key_of p q r s)).x) (λ x y z w. y)
  pub three : Is (after p q r s (inverse (key_of p q r s)).y) (λ x y z w. z)
  pub four : Is (after p q r s (inverse (key_of p q r s)).z) (λ x y z w. w)

undone_from : (p q r s : ℕ) (m : Rows) → (a b c d : Bool) → T (cond a (cond b (cond c d false) false) false) → T a × T b × T c × T d
undone_from p q r s m a b c d t =
    let u = right a (cond b (cond c d false) false) t in let v = right b (cond c d false) u in
    (left a (cond b (cond c d false) false) t, left b (cond c d false) u, left c d v, right c d v)

pub undone : (p q r s : ℕ) → p < q → q < r → r < s → s < 6 → Undone p q r s
unfolding all4
undone p q r s pq qr rs s6 =
    let m = inverse (key_of p q r s) in
    let ts = undone_from p q r s m (test (after p q r s m.w) (λ x y z w. x)) (test (after p q r s m.x) (λ x y z w. y)) (test (after p q r s m.y) (λ x y z w. z)) (test (after p q r s m.z) (λ x y z w. w)) (tested p q r s pq qr rs s6) in
    record {
      one = agree (after p q r s m.w) (λ x y z w. x) (after_lin p q r s m.w) first_lin ts.0;
      two = agree (after p q r s m.x) (λ x y z w. y) (after_lin p q r s m.x) second_lin ts.1;
      three = agree (after p q r s m.y) (λ x y z w. z) (after_lin p q r s m.y) third_lin ts.2;
      four = agree (after p q r s m.z) (λ x y z w. w) (after_lin p q r s m.z) fourth_lin ts.3;
    }
