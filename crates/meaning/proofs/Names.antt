-- The order of names is strict and total: two names of which none is less are one name.
-- Assumes nothing.
use Rattle.std.proofs.Common.{◌≡◌, ℕ, ◌<◌, Bool, true, false, not, ◌&&◌, T, eqb, ltb, ◌⊎◌, [], ◌∷◌, sym, refl, ◌∙◌, ap₂, inl, inr, arith}
use Rattle.std.proofs.lemmas.Bool.{both_ways, ltb-true, ltb-false, eqb-true, eq-eqb, lt-ltb, or_cases, or_parts, and_parts, or_left, or_right, and_from, not-true, false≢true, true≢false}
use Rattle.meaning.specs.Lists.{Name, less, same}

-- a test that is true, as a type, and back
pub so : {b : Bool} → b ≡ true → T b
so e = rw e tt

pub is_so : (b : Bool) → T b → b ≡ true
is_so true t = refl
is_so false t = absurd t

-- what a true test of heads and tails says
less_cases : (x y : ℕ) (xs ys : Name) → less (x ∷ xs) (y ∷ ys) ≡ true → (x < y) ⊎ ((x ≡ y) × (less xs ys ≡ true))
unfolding less
less_cases x y xs ys e = split (or_cases (ltb x y) (eqb x y && less xs ys) e)
  where
    split : (ltb x y ≡ true) ⊎ ((eqb x y && less xs ys) ≡ true) → (x < y) ⊎ ((x ≡ y) × (less xs ys ≡ true))
    split (inl p) = inl (ltb-true x y p)
    split (inr p) = let (a, b) = and_parts (eqb x y) (less xs ys) p in inr (eqb-true x y a, b)

less_head : (x y : ℕ) (xs ys : Name) → x < y → less (x ∷ xs) (y ∷ ys) ≡ true
unfolding less
less_head x y xs ys h = or_left (ltb x y) (eqb x y && less xs ys) (lt-ltb x y h)

less_tail : (x y : ℕ) (xs ys : Name) → x ≡ y → less xs ys ≡ true → less (x ∷ xs) (y ∷ ys) ≡ true
unfolding less
less_tail x y xs ys e h = or_right (ltb x y) (eqb x y && less xs ys) (and_from (eqb x y) (less xs ys) (eq-eqb x y e) h)

pub less_irrefl : (a : Name) → less a a ≡ true → ⊥
unfolding less
less_irrefl [] e = false≢true e
less_irrefl (x ∷ xs) e = split (less_irrefl xs) (less_cases x x xs xs e)
  where
    split : (less xs xs ≡ true → ⊥) → (x < x) ⊎ ((x ≡ x) × (less xs xs ≡ true)) → ⊥
    split below (inl h) = omega arith
    split below (inr p) = below p.1

pub less_trans : (a b c : Name) → less a b ≡ true → less b c ≡ true → less a c ≡ true
unfolding less
less_trans a b [] p q = q
less_trans [] [] (z ∷ zs) p q = q
less_trans [] (y ∷ ys) (z ∷ zs) p q = refl
less_trans (x ∷ xs) [] (z ∷ zs) p q = absurd (false≢true p)
less_trans (x ∷ xs) (y ∷ ys) (z ∷ zs) p q = join (less_trans xs ys zs) (less_cases x y xs ys p) (less_cases y z ys zs q)
  where
    join : (less xs ys ≡ true → less ys zs ≡ true → less xs zs ≡ true) → (x < y) ⊎ ((x ≡ y) × (less xs ys ≡ true)) → (y < z) ⊎ ((y ≡ z) × (less ys zs ≡ true)) → less (x ∷ xs) (z ∷ zs) ≡ true
    join below (inl h) (inl k) = less_head x z xs zs (omega arith)
    join below (inl h) (inr k) = less_head x z xs zs (omega arith)
    join below (inr h) (inl k) = less_head x z xs zs (omega arith)
    join below (inr h) (inr k) = less_tail x z xs zs (h.0 ∙ k.0) (below h.1 k.1)

pub less_total : (a b : Name) → less a b ≡ false → less b a ≡ false → a ≡ b
unfolding less
less_total [] [] p q = refl
less_total [] (y ∷ ys) p q = absurd (true≢false p)
less_total (x ∷ xs) [] p q = absurd (true≢false q)
less_total (x ∷ xs) (y ∷ ys) p q = ap₂ ◌∷◌ heads (less_total xs ys (tails x y xs ys heads p) (tails y x ys xs (sym heads) q))
  where
    heads : x ≡ y
    heads = omega (arith, ltb-false x y (or_parts (ltb x y) (eqb x y && less xs ys) p).0, ltb-false y x (or_parts (ltb y x) (eqb y x && less ys xs) q).0)

    tails : (u w : ℕ) (us ws : Name) → u ≡ w → less (u ∷ us) (w ∷ ws) ≡ false → less us ws ≡ false
    tails u w us ws e h = rw (eq-eqb u w e) at (or_parts (ltb u w) (eqb u w && less us ws) h).1

pub same_refl : (a : Name) → same a a ≡ true
same_refl a = go (less a a) refl
  where
    go : (b : Bool) → less a a ≡ b → same a a ≡ true
    go true e = absurd (less_irrefl a e)
    go false e = rw e refl

-- the same by the order is the same
pub same_eq : (a b : Name) → same a b ≡ true → a ≡ b
same_eq a b e = let (p, q) = and_parts (not (less a b)) (not (less b a)) e in less_total a b (not-true (less a b) p) (not-true (less b a) q)

pub same_from : (a b : Name) → a ≡ b → same a b ≡ true
same_from a b e = rw e (same_refl b)

pub same_not : (a b : Name) → same a b ≡ false → a ≡ b → ⊥
same_not a b p e = both_ways (same a b) p (same_from a b e)

pub same_unlike : (a b : Name) → (a ≡ b → ⊥) → same a b ≡ false
same_unlike a b d = go (same a b) refl
  where
    go : (t : Bool) → same a b ≡ t → same a b ≡ false
    go true e = absurd (d (same_eq a b e))
    go false e = e

-- a name that comes before another isn't the other
pub less_unlike : (a b : Name) → less a b ≡ true → a ≡ b → ⊥
less_unlike a b h e = less_irrefl b (rw e at h)
