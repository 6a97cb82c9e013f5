-- A piece that is made anew, as one sum of the four held ones: by the row of its place, itself where it is held, and by `lost_row` where it is not.
-- Assumes nothing.
use Prim.Native.Nat.{ℕ, zero, suc, ◌-◌, ◌<◌}
use native.Mathlib.Omega.{arith}
use mathlib.Core.Path.{◌≡◌, refl, sym, ◌∙◌, ap, subst}
use mathlib.Core.Logic.{◌≢◌}
use mathlib.Core.Bool.{Bool, true, false, cond}
use mathlib.Core.List.{List}
use lib.Dec.{eqb, ltb, T, lt→ltb, eqb→eq}
use Rattle.field.specs.Field.{double, by, times, Row, row, dot, map4}
use Rattle.field.specs.Stripe.{Rows, generator, inverse, key_of, encoded, decoded, four_held, rebuilt, row_by, row_for, key_but, lost_row}
use Rattle.field.proofs.Bytes.{below, left, right, at, Lin, dot_lin, comp_lin, test1, test, agree, first_lin, second_lin, third_lin}
use Rattle.field.proofs.Undone.{Is, rises, both}
use Rattle.field.proofs.Pieces.{Good, comp, same, one, two, three, four, is_one, is_two, is_three, is_four}

eq_row : Row → Row → Bool
eq_row m n = cond (eqb m.a n.a) (cond (eqb m.b n.b) (cond (eqb m.c n.c) (eqb m.d n.d) false) false) false

same_row : (m n : Row) → T (eq_row m n) → m ≡ n
unfolding eq_row
same_row m n t =
    let u = right (eqb m.a n.a) (cond (eqb m.b n.b) (cond (eqb m.c n.c) (eqb m.d n.d) false) false) t in
    let v = right (eqb m.b n.b) (cond (eqb m.c n.c) (eqb m.d n.d) false) u in
    let ea = eqb→eq m.a n.a (left (eqb m.a n.a) (cond (eqb m.b n.b) (cond (eqb m.c n.c) (eqb m.d n.d) false) false) t) in
    let eb = eqb→eq m.b n.b (left (eqb m.b n.b) (cond (eqb m.c n.c) (eqb m.d n.d) false) u) in
    let ec = eqb→eq m.c n.c (left (eqb m.c n.c) (eqb m.d n.d) v) in
    let ed = eqb→eq m.d n.d (right (eqb m.c n.c) (eqb m.d n.d) v) in
    λ i. record { a = ea i; b = eb i; c = ec i; d = ed i }

-- what g makes of what the rows of m make
abbrev made : Row → Rows → ℕ → ℕ → ℕ → ℕ → ℕ
made g m x y z w = dot g (dot m.w x y z w) (dot m.x x y z w) (dot m.y x y z w) (dot m.z x y z w)

made_lin : (g : Row) (m : Rows) → Lin (made g m)
made_lin g m = comp_lin (dot g) (dot m.w) (dot m.x) (dot m.y) (dot m.z) (dot_lin g) (dot_lin m.w) (dot_lin m.x) (dot_lin m.y) (dot_lin m.z)

-- one test of a choice: the held places' rows, and the parities' rows as products
choice : ℕ → ℕ → ℕ → ℕ → Bool
choice p q r s =
    let k = key_of p q r s in
    let m = inverse k in
    cond (eq_row (row_for k p) (row 1 0 0 0)) (cond (eq_row (row_for k q) (row 0 1 0 0)) (cond (eq_row (row_for k r) (row 0 0 1 0)) (cond (eq_row (row_for k s) (row 0 0 0 1))
    (cond (test (made (generator 4) m) (dot (row_by (generator 4) m))) (test (made (generator 5) m) (dot (row_by (generator 5) m))) false) false) false) false) false

rising : ℕ → ℕ → ℕ → ℕ → Bool
rising p q r s = elim (cond (ltb p q) (cond (ltb q r) (ltb r s) false) false) [ true ↦ choice p q r s | false ↦ true ]

every_choice : T (below (λ p. below (λ q. below (λ r. below (λ s. rising p q r s) 6) 6) 6) 6)
unfolding below rising choice eq_row test test1 inverse dot times by double
every_choice = tt

chosen : (p q r s : ℕ) → p < q → q < r → r < s → s < 6 → T (choice p q r s)
unfolding rising
chosen p q r s pq qr rs s6 =
    rises (cond (ltb p q) (cond (ltb q r) (ltb r s) false) false) (choice p q r s)
    (both (ltb p q) (cond (ltb q r) (ltb r s) false) (lt→ltb p q pq) (both (ltb q r) (ltb r s) (lt→ltb q r qr) (lt→ltb r s rs)))
    (at (λ s. rising p q r s) 6 (at (λ r. below (λ s. rising p q r s) 6) 6 (at (λ q. below (λ r. below (λ s. rising p q r s) 6) 6) 6 (at (λ p. below (λ q. below (λ r. below (λ s. rising p q r s) 6) 6) 6) 6 every_choice p (omega arith)) q (omega arith)) r (omega arith)) s s6)

pub record Chosen (p q r s : ℕ) : Type 0 where
  pub one : row_for (key_of p q r s) p ≡ row 1 0 0 0
  pub two : row_for (key_of p q r s) q ≡ row 0 1 0 0
  pub three : row_for (key_of p q r s) r ≡ row 0 0 1 0
  pub four : row_for (key_of p q r s) s ≡ row 0 0 0 1
  pub sum : Is (made (generator 4) (inverse (key_of p q r s))) (dot (row_by (generator 4) (inverse (key_of p q r s))))
  pub weighted : Is (made (generator 5) (inverse (key_of p q r s))) (dot (row_by (generator 5) (inverse (key_of p q r s))))

chosen_rows : (p q r s : ℕ) → p < q → q < r → r < s → s < 6 → Chosen p q r s
unfolding choice
chosen_rows p q r s pq qr rs s6 =
    let k = key_of p q r s in
    let m = inverse k in
    let a = eq_row (row_for k p) (row 1 0 0 0) in
    let b = eq_row (row_for k q) (row 0 1 0 0) in
    let c = eq_row (row_for k r) (row 0 0 1 0) in
    let d = eq_row (row_for k s) (row 0 0 0 1) in
    let e = test (made (generator 4) m) (dot (row_by (generator 4) m)) in
    let f = test (made (generator 5) m) (dot (row_by (generator 5) m)) in
    let t0 = chosen p q r s pq qr rs s6 in
    let t1 = right a (cond b (cond c (cond d (cond e f false) false) false) false) t0 in
    let t2 = right b (cond c (cond d (cond e f false) false) false) t1 in
    let t3 = right c (cond d (cond e f false) false) t2 in
    let t4 = right d (cond e f false) t3 in
    record {
      one = same_row _ _ (left a (cond b (cond c (cond d (cond e f false) false) false) false) t0);
      two = same_row _ _ (left b (cond c (cond d (cond e f false) false) false) t1);
      three = same_row _ _ (left c (cond d (cond e f false) false) t2);
      four = same_row _ _ (left d (cond e f false) t3);
      sum = agree _ _ (made_lin (generator 4) m) (dot_lin (row_by (generator 4) m)) (left e f t4);
      weighted = agree _ _ (made_lin (generator 5) m) (dot_lin (row_by (generator 5) m)) (right e f t4);
    }

-- the other lost place is what the five leave of 15, the sum of all places
lost : ℕ → ℕ → ℕ → ℕ → ℕ → Bool
lost p q r s t = elim (cond (eqb t p) false (cond (eqb t q) false (cond (eqb t r) false (cond (eqb t s) false true)))) [ true ↦ eqb (key_of p q r s) (key_but t (15 - p - q - r - s - t)) | false ↦ true ]

rising_lost : ℕ → ℕ → ℕ → ℕ → Bool
rising_lost p q r s = elim (cond (ltb p q) (cond (ltb q r) (ltb r s) false) false) [ true ↦ below (lost p q r s) 6 | false ↦ true ]

every_lost : T (below (λ p. below (λ q. below (λ r. below (λ s. rising_lost p q r s) 6) 6) 6) 6)
unfolding below rising_lost lost
every_lost = tt

unequal : (m n : ℕ) (b : Bool) → m ≢ n → T b → T (cond (eqb m n) false b)
unequal m n b ne t = go (eqb m n) refl
  where
    go : (e : Bool) → eqb m n ≡ e → T (cond e false b)
    go true h = absurd (ne (eqb→eq m n (subst T (sym h) tt)))
    go false h = t

pub lost_row_lem : (p q r s t : ℕ) → p < q → q < r → r < s → s < 6 → t < 6 → t ≢ p → t ≢ q → t ≢ r → t ≢ s → row_for (key_of p q r s) t ≡ lost_row t (15 - p - q - r - s - t)
unfolding rising_lost lost lost_row
lost_row_lem p q r s t pq qr rs s6 t6 np nq nr ns =
    let all = rises (cond (ltb p q) (cond (ltb q r) (ltb r s) false) false) (below (lost p q r s) 6)
    (both (ltb p q) (cond (ltb q r) (ltb r s) false) (lt→ltb p q pq) (both (ltb q r) (ltb r s) (lt→ltb q r qr) (lt→ltb r s rs)))
    (at (λ s. rising_lost p q r s) 6 (at (λ r. below (λ s. rising_lost p q r s) 6) 6 (at (λ q. below (λ r. below (λ s. rising_lost p q r s) 6) 6) 6 (at (λ p. below (λ q. below (λ r. below (λ s. rising_lost p q r s) 6) 6) 6) 6 every_lost p (omega arith)) q (omega arith)) r (omega arith)) s s6) in
    let here = rises (cond (eqb t p) false (cond (eqb t q) false (cond (eqb t r) false (cond (eqb t s) false true)))) (eqb (key_of p q r s) (key_but t (15 - p - q - r - s - t)))
    (unequal t p (cond (eqb t q) false (cond (eqb t r) false (cond (eqb t s) false true))) np (unequal t q (cond (eqb t r) false (cond (eqb t s) false true)) nq (unequal t r (cond (eqb t s) false true) nr (unequal t s true ns tt))))
    (at (lost p q r s) 6 all t t6) in
    ap (λ k. row_for k t) (eqb→eq (key_of p q r s) (key_but t (15 - p - q - r - s - t)) here)

module _ (p q r s : ℕ) (pq : p < q) (qr : q < r) (rs : r < s) (s6 : s < 6) (n : ℕ) (x y z w : List ℕ) (gx : Good n x) (gy : Good n y) (gz : Good n z) (gw : Good n w) where
  -- a piece as one sum
  pub by_row : (t : ℕ) → t < 6 → rebuilt (four_held p q r s x y z w) t ≡ map4 (dot (row_for (key_of p q r s) t)) x y z w
  unfolding encoded decoded
  by_row zero h = refl
  by_row (suc zero) h = refl
  by_row (suc (suc zero)) h = refl
  by_row (suc (suc (suc zero))) h = refl
  by_row (suc (suc (suc (suc zero)))) h =
      let m = inverse (key_of p q r s) in
      comp (dot (generator 4)) (dot m.w) (dot m.x) (dot m.y) (dot m.z) x y z w ∙ same _ _ (chosen_rows p q r s pq qr rs s6).sum n x y z w gx gy gz gw
  by_row (suc (suc (suc (suc (suc zero))))) h =
      let m = inverse (key_of p q r s) in
      comp (dot (generator 5)) (dot m.w) (dot m.x) (dot m.y) (dot m.z) x y z w ∙ same _ _ (chosen_rows p q r s pq qr rs s6).weighted n x y z w gx gy gz gw
  by_row (suc (suc (suc (suc (suc (suc t)))))) h = absurd (omega arith)

  -- a held piece is itself
  pub first_held : rebuilt (four_held p q r s x y z w) p ≡ x
  first_held = by_row p (omega arith) ∙ ap (λ m. map4 (dot m) x y z w) (chosen_rows p q r s pq qr rs s6).one ∙ same _ _ is_one n x y z w gx gy gz gw ∙ one n x y z w gx

  pub second_held : rebuilt (four_held p q r s x y z w) q ≡ y
  second_held = by_row q (omega arith) ∙ ap (λ m. map4 (dot m) x y z w) (chosen_rows p q r s pq qr rs s6).two ∙ same _ _ is_two n x y z w gx gy gz gw ∙ two n x y z w gx gy

  pub third_held : rebuilt (four_held p q r s x y z w) r ≡ z
  third_held = by_row r (omega arith) ∙ ap (λ m. map4 (dot m) x y z w) (chosen_rows p q r s pq qr rs s6).three ∙ same _ _ is_three n x y z w gx gy gz gw ∙ three n x y z w gx gz

  pub fourth_held : rebuilt (four_held p q r s x y z w) s ≡ w
  fourth_held = by_row s s6 ∙ ap (λ m. map4 (dot m) x y z w) (chosen_rows p q r s pq qr rs s6).four ∙ same _ _ is_four n x y z w gx gy gz gw ∙ four n x y z w gx gw

-- Of two lost data pieces, where one is made anew the other is the sum of it, the two data pieces that are left, and P.
abbrev summed : ℕ → ℕ → ℕ → ℕ → ℕ → ℕ → ℕ
summed i j x y z w = dot (generator 4) x y z (dot (lost_row j i) x y z w)

pairs : ℕ → ℕ → Bool
pairs i j = elim (eqb i j) [ true ↦ true | false ↦ test (summed i j) (dot (lost_row i j)) ]

every_pair : T (below (λ i. below (λ j. pairs i j) 4) 4)
unfolding below pairs test test1 lost_row inverse dot times by double
every_pair = tt

apart : (i j : ℕ) (b : Bool) → i ≢ j → T (elim (eqb i j) [ true ↦ true | false ↦ b ]) → T b
apart i j b ne t = go (eqb i j) refl t
  where
    go : (e : Bool) → eqb i j ≡ e → T (elim e [ true ↦ true | false ↦ b ]) → T b
    go true h u = absurd (ne (eqb→eq i j (subst T (sym h) tt)))
    go false h u = u

summed_is : (i j : ℕ) → i < 4 → j < 4 → i ≢ j → Is (summed i j) (dot (lost_row i j))
unfolding pairs
summed_is i j hi hj ne =
    agree (summed i j) (dot (lost_row i j))
    (comp_lin (dot (generator 4)) (λ x y z w. x) (λ x y z w. y) (λ x y z w. z) (dot (lost_row j i)) (dot_lin (generator 4)) first_lin second_lin third_lin (dot_lin (lost_row j i)))
    (dot_lin (lost_row i j))
    (apart i j (test (summed i j) (dot (lost_row i j))) ne (at (λ j. pairs i j) 4 (at (λ i. below (λ j. pairs i j) 4) 4 every_pair i hi) j hj))

pub other_lost : (i j : ℕ) → i < 4 → j < 4 → i ≢ j → (n : ℕ) (x y z w : List ℕ) → Good n x → Good n y → Good n z → Good n w →
    map4 (dot (generator 4)) x y z (map4 (dot (lost_row j i)) x y z w) ≡ map4 (dot (lost_row i j)) x y z w
other_lost i j hi hj ne n x y z w gx gy gz gw =
    let a = one n x y z w gx in
    let b = two n x y z w gx gy in
    let c = three n x y z w gx gz in
    let e = comp (dot (generator 4)) (λ x y z w. x) (λ x y z w. y) (λ x y z w. z) (dot (lost_row j i)) x y z w in
    let s = same (summed i j) (dot (lost_row i j)) (summed_is i j hi hj ne) n x y z w gx gy gz gw in
    let f : map4 (dot (generator 4)) x y z (map4 (dot (lost_row j i)) x y z w) ≡ map4 (dot (generator 4)) (map4 (λ x y z w. x) x y z w) (map4 (λ x y z w. y) x y z w) (map4 (λ x y z w. z) x y z w) (map4 (dot (lost_row j i)) x y z w) = cc in
    f ∙ e ∙ s
