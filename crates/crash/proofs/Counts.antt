-- How many drives pass a test.
-- Assumes nothing.
use mathlib.Core.Path.{◌≡◌, refl, sym, ap, subst}
use mathlib.Core.Logic.{◌⊎◌, inl, inr, ⊎_elim}
use mathlib.Core.Bool.{Bool, true, false, cond, not, ◌&&◌, true≢false}
use mathlib.Core.List.{List}
use Prim.Native.Nat.{ℕ, zero, suc, ◌+◌, ◌<◌, ◌≤◌, min}
use native.Mathlib.Omega.{arith}
use lib.Dec.{T, ltb, ltb→lt, nltb→le}
use Rattle.crash.specs.Loops.{count, any}
use Rattle.crash.specs.Refinement.{Few}
use Rattle.crash.proofs.Updates.{same?}
use Rattle.crash.proofs.Weak.{Weak, not_three}

pub below? : (m n : ℕ) → (m < n) ⊎ (n ≤ m)
below? m n = go (ltb m n) refl
  where
    go : (b : Bool) → ltb m n ≡ b → (m < n) ⊎ (n ≤ m)
    go true e = inl (ltb→lt m n (subst T (sym e) tt))
    go false e = inr (nltb→le m n (subst (λ b. T (not b)) (sym e) tt))

-- ANY

pub any_true : (t : ℕ → Bool) (n : ℕ) → any t n ≡ true → (i : ℕ) × (i < n) × (t i ≡ true)
unfolding any
any_true t zero e = absurd (true≢false (sym e))
any_true t (suc n) e = go (any_true t n) (t n) refl e
  where
    go : (any t n ≡ true → (i : ℕ) × (i < n) × (t i ≡ true)) → (v : Bool) → t n ≡ v → cond v true (any t n) ≡ true → (i : ℕ) × (i < suc n) × (t i ≡ true)
    go more true p e = (n, omega arith, p)
    go more false p e = let (i, l, q) = more e in (i, omega arith, q)

pub any_false : (t : ℕ → Bool) (n : ℕ) → any t n ≡ false → (i : ℕ) → i < n → t i ≡ false
unfolding any
any_false t zero e i l = absurd (omega arith)
any_false t (suc n) e i l = go (any_false t n) (t n) refl e
  where
    go : (any t n ≡ false → (i : ℕ) → i < n → t i ≡ false) → (v : Bool) → t n ≡ v → cond v true (any t n) ≡ false → t i ≡ false
    go more true p e = absurd (true≢false e)
    go more false p e = ⊎_elim (λ q. subst (λ m. t m ≡ false) (sym q) p) (λ q. more e i (omega arith)) (same? i n)

-- COUNTS

pub count_same : (s t : ℕ → Bool) (n : ℕ) → ((i : ℕ) → i < n → s i ≡ t i) → count s n ≡ count t n
unfolding count
count_same s t zero h = refl
count_same s t (suc n) h = rw (h n (omega arith)) (ap (λ c. cond (t n) (suc c) c) (count_same s t n (λ i l. h i (omega arith))))

pub count_not : (t : ℕ → Bool) (n : ℕ) → count (λ i. not (t i)) n + count t n ≡ n
unfolding count
count_not t zero = refl
count_not t (suc n) = go (count_not t n) (t n)
  where
    go : (count (λ i. not (t i)) n + count t n ≡ n) → (v : Bool) → cond (not v) (suc (count (λ i. not (t i)) n)) (count (λ i. not (t i)) n) + cond v (suc (count t n)) (count t n) ≡ suc n
    go e true = omega arith
    go e false = omega arith

-- the highest drive that passes, and how many do below it
count_last : (t : ℕ → Bool) (n c : ℕ) → suc c ≤ count t n → (k : ℕ) × (k < n) × (t k ≡ true) × (c ≤ count t k)
unfolding count
count_last t zero c h = absurd (omega arith)
count_last t (suc n) c h = go (count_last t n c) (t n) refl h
  where
    go : (suc c ≤ count t n → (k : ℕ) × (k < n) × (t k ≡ true) × (c ≤ count t k)) → (v : Bool) → t n ≡ v → suc c ≤ cond v (suc (count t n)) (count t n) → (k : ℕ) × (k < suc n) × (t k ≡ true) × (c ≤ count t k)
    go more true e h = (n, omega arith, e, omega arith)
    go more false e h = let (k, l, p, q) = more h in (k, omega arith, p, q)

-- where only weak drives pass, at most two do
pub few_pass : (ws : List ℕ) → Few ws → (t : ℕ → Bool) → ((i : ℕ) → i < 6 → t i ≡ true → Weak ws i) → count t 6 ≤ 2
few_pass ws few t h = ⊎_elim three (λ l. l) (below? 2 (count t 6))
  where
    three : 2 < count t 6 → count t 6 ≤ 2
    three l =
        let (i, a, p, x) = count_last t 6 2 (omega arith) in
        let (j, b, q, y) = count_last t i 1 (omega arith) in
        let (k, c, r, z) = count_last t j 0 (omega arith) in
        absurd (not_three ws few k j i c b (h k (omega arith) r) (h j (omega arith) q) (h i a p))

-- the first four that pass
pub count_first : (t : ℕ → Bool) (n : ℕ) → count (λ i. t i && ltb (count t i) 4) n ≡ min 4 (count t n)
unfolding count
count_first t zero = refl
count_first t (suc n) = go (count_first t n) (t n) (ltb (count t n) 4) refl
  where
    go : (count (λ i. t i && ltb (count t i) 4) n ≡ min 4 (count t n)) → (v w : Bool) → ltb (count t n) 4 ≡ w → cond (v && w) (suc (count (λ i. t i && ltb (count t i) 4) n)) (count (λ i. t i && ltb (count t i) 4) n) ≡ min 4 (cond v (suc (count t n)) (count t n))
    go h true true e = let l = ltb→lt (count t n) 4 (subst T (sym e) tt) in omega arith
    go h true false e = let l = nltb→le (count t n) 4 (subst (λ b. T (not b)) (sym e) tt) in omega arith
    go h false w e = h

-- where all but two of six drives are trusted, the first four of these are four
pub four_first : (ws : List ℕ) → Few ws → (t : ℕ → Bool) → ((i : ℕ) → i < 6 → t i ≡ false → Weak ws i) → count (λ i. t i && ltb (count t i) 4) 6 ≡ 4
four_first ws few t h = omega (arith, count_first t 6, count_not t 6, few_pass ws few (λ i. not (t i)) (λ i l e. h i l (not-true (t i) e)))
  where
    not-true : (b : Bool) → not b ≡ true → b ≡ false
    not-true true e = absurd (true≢false (sym e))
    not-true false e = refl
