-- A decimal number, one more digit at a time; what is too large stays the largest.
-- Assumes nothing.
use Rattle.std.proofs.Common.{◌≡◌, ℕ, ◌+◌, ◌-◌, ◌*◌, ◌<◌, ◌≤◌, min, Bool, true, false, ◌&&◌, leb, List, [], ◌∷◌, length, get_or, drop, Some, sym, refl, ap, ◌∙◌, le_trans, arith, leb-true}
use native.Mathlib.Nat.{min-eq_left, min-eq_right}
use Rattle.std.proofs.lemmas.Bool.Decides.{nat_tests}
use Rattle.std.proofs.lemmas.List.{at_drop_more, at_drop_all}
use Rattle.std.specs.List.{list_all}
use Rattle.std.specs.Char.{is_ascii_digit}
use Rattle.console.specs.Hex.{value_from, most, read_from}

value_more : (n : ℕ) (xs : List ℕ) (i : ℕ) → i < length xs → value_from n (drop i xs) ≡ value_from (10 * n + (get_or xs i 0 - 48)) (drop (i + 1) xs)
unfolding value_from
value_more n xs i h = at_drop_more (value_from n) xs i 0 h

value_grows : (n : ℕ) (ds : List ℕ) → n ≤ value_from n ds
unfolding value_from
value_grows n [] = omega arith
value_grows n (d ∷ ds) = let h = value_grows (10 * n + (d - 48)) ds in omega arith

value_capped : (m : ℕ) (ds : List ℕ) → min (value_from m ds) most ≡ min (value_from (min m most) ds) most
value_capped m ds = go (leb m most) refl
  where
    go : (b : Bool) → leb m most ≡ b → min (value_from m ds) most ≡ min (value_from (min m most) ds) most
    go true t = let h : m ≤ most = leb-true m most t in rw (min-eq_left h)
    go false t =
        let h : most ≤ m = grind (arith, nat_tests) in
        let g = value_grows m ds in
        let k = value_grows most ds in
        rw (min-eq_right h) (min-eq_right (le_trans h g) ∙ sym (min-eq_right k))

-- the sum of the code, which stops at the largest twice
abbrev pub onward : ℕ → ℕ → ℕ
onward n d = min (min (n * 10) most + d) most

once : (n d : ℕ) → onward n d ≡ min (10 * n + d) most
once n d = omega arith

digits_more : (xs : List ℕ) (i : ℕ) → i < length xs → list_all is_ascii_digit (drop i xs) ≡ is_ascii_digit (get_or xs i 0) && list_all is_ascii_digit (drop (i + 1) xs)
digits_more xs i h = at_drop_more (list_all is_ascii_digit) xs i 0 h

pub read_more : (n : ℕ) (xs : List ℕ) (i d : ℕ) → i < length xs → is_ascii_digit (get_or xs i 0) ≡ true → d ≡ get_or xs i 0 - 48 → read_from n (drop i xs) ≡ read_from (onward n d) (drop (i + 1) xs)
read_more n xs i d h t e =
    let rest = drop (i + 1) xs in
    let p : list_all is_ascii_digit (drop i xs) ≡ list_all is_ascii_digit rest = digits_more xs i h ∙ ap (λ b. b && list_all is_ascii_digit rest) t in
    let v = value_more n xs i h in
    let w : min (value_from n (drop i xs)) most ≡ min (value_from (onward n d) rest) most =
    ap (λ k. min k most) v ∙ value_capped (10 * n + (get_or xs i 0 - 48)) rest ∙ ap (λ k. min (value_from k rest) most) (sym (once n (get_or xs i 0 - 48)) ∙ ap (onward n) (sym e))
    in
    rw (p, w)

pub read_all : (n : ℕ) (xs : List ℕ) (i : ℕ) → length xs ≤ i → n ≤ most → read_from n (drop i xs) ≡ Some n
unfolding value_from
read_all n xs i h k =
    let p : list_all is_ascii_digit (drop i xs) ≡ true = at_drop_all (list_all is_ascii_digit) xs i h in
    let v : value_from n (drop i xs) ≡ n = at_drop_all (value_from n) xs i h in
    rw (p, v, min-eq_left k)
