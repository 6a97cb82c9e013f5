-- What is found, kept and changed in lists, and what is in them afterwards.
-- Assumes nothing.
use Rattle.std.proofs.Common.{◌≡◌, ℕ, suc, ◌≤◌, Bool, true, false, cond, ◌⊎◌, List, [], ◌∷◌, ◌++◌, map, length, sym, refl, ap, ◌∙◌, subst, inl, inr, arith}
use mathlib.Core.List.Memᴰ
use mathlib.Core.List.{Memᴰ}
use Rattle.std.proofs.lemmas.Bool.{both_ways, cond_both, or_parts}
use Rattle.meaning.specs.Lists.{some, keep, find, change}
use Rattle.meaning.proofs.Good.{Pairs}

-- what is found is there and passes
pub record Found {A : Type 0} (f : A → Bool) (xs : List A) (x : A) : Type 0 where
  pub there : Memᴰ x xs
  pub passes : f x ≡ true

-- at most one is found
abbrev pub FoundOrNone : {A : Type 0} → (A → Bool) → List A → Type 0
FoundOrNone {A} f xs = (find f xs ≡ []) ⊎ ((x : A) × (find f xs ≡ x ∷ []))

-- one of a changed list is what the change made of one that passes, or was there
abbrev pub Changed : {A : Type 0} → (A → Bool) → (A → A) → List A → A → Type 0
Changed {A} f g xs z = ((w : A) × (z ≡ g w) × Found f xs w) ⊎ Memᴰ z xs

-- one more at the end: what was found is found, or it is the one
abbrev pub Pushed : {A : Type 0} → (A → Bool) → A → List A → Type 0
Pushed f y xs = (find f (xs ++ (y ∷ [])) ≡ find f xs) ⊎ ((find f xs ≡ []) × (f y ≡ true) × (find f (xs ++ (y ∷ [])) ≡ y ∷ []))

module _ {A : Type 0} (f : A → Bool) where
  pub found : (xs : List A) (x : A) (ys : List A) → find f xs ≡ x ∷ ys → Found f xs x
  unfolding find
  found [] x ys e = absurd (let z : ◌≡◌ {A = ℕ} 0 1 = cc in omega arith)
  found (y ∷ xs) x ys e = go (f y) refl (found xs x ys)
    where
      go : (b : Bool) → f y ≡ b → (find f xs ≡ x ∷ ys → Found f xs x) → Found f (y ∷ xs) x
      go true p below = let q : y ≡ x = cc in record { there = Memᴰ.head (sym q); passes = rw (← q) p }
      go false p below = let h = below (rw p at e) in record { there = Memᴰ.tail h.there; passes = h.passes }

  pub at_find : (P : List A → Type 0) (xs : List A) → (find f xs ≡ [] → P []) → ((x : A) → find f xs ≡ x ∷ [] → P (x ∷ [])) → P (find f xs)
  unfolding find
  at_find P [] none one = none refl
  at_find P (x ∷ xs) none one = go (f x) refl (at_find P xs)
    where
      go : (b : Bool) → f x ≡ b → ((find f xs ≡ [] → P []) → ((y : A) → find f xs ≡ y ∷ [] → P (y ∷ [])) → P (find f xs)) → P (cond (f x) (x ∷ []) (find f xs))
      go true p below = rw p (one x (rw p refl))
      go false p below = rw p (below (λ e. none (rw p e)) (λ y e. one y (rw p e)))

  pub found_or_none : (xs : List A) → FoundOrNone f xs
  found_or_none xs = at_find (λ ys. (ys ≡ []) ⊎ ((x : A) × (ys ≡ x ∷ []))) xs (λ _. inl refl) (λ x _. inr (x, refl))

  pub not_some : (xs : List A) → some f xs ≡ false → (x : A) → Memᴰ x xs → f x ≡ false
  unfolding some
  not_some [] e x m = absurd (Memᴰ.not-nil m)
  not_some (y ∷ xs) e x m = go (not_some xs) (Memᴰ.cases_cons m)
    where
      go : (some f xs ≡ false → (z : A) → Memᴰ z xs → f z ≡ false) → (x ≡ y) ⊎ Memᴰ x xs → f x ≡ false
      go below (inl d) = rw d (or_parts (f y) (some f xs) e).0
      go below (inr m) = below (or_parts (f y) (some f xs) e).1 x m

  pub kept_was : (xs : List A) (x : A) → Memᴰ x (keep f xs) → Found f xs x
  unfolding keep
  kept_was [] x m = absurd (Memᴰ.not-nil m)
  kept_was (y ∷ xs) x m = go (f y) refl (kept_was xs x)
    where
      deeper : Found f xs x → Found f (y ∷ xs) x
      deeper h = record { there = Memᴰ.tail h.there; passes = h.passes }

      first : f y ≡ true → (Memᴰ x (keep f xs) → Found f xs x) → (x ≡ y) ⊎ Memᴰ x (keep f xs) → Found f (y ∷ xs) x
      first p below (inl e) = record { there = Memᴰ.head e; passes = rw e p }
      first p below (inr m) = deeper (below m)

      go : (b : Bool) → f y ≡ b → (Memᴰ x (keep f xs) → Found f xs x) → Found f (y ∷ xs) x
      go true p below = first p below (Memᴰ.cases_cons (rw p at m))
      go false p below = deeper (below (rw p at m))

  pub kept_is : (xs : List A) (x : A) → Memᴰ x xs → f x ≡ true → Memᴰ x (keep f xs)
  unfolding keep
  kept_is [] x m h = m
  kept_is (y ∷ xs) x m h = go (f y) refl (kept_is xs x) (Memᴰ.cases_cons m)
    where
      go : (b : Bool) → f y ≡ b → (Memᴰ x xs → f x ≡ true → Memᴰ x (keep f xs)) → (x ≡ y) ⊎ Memᴰ x xs → Memᴰ x (cond (f y) (y ∷ keep f xs) (keep f xs))
      go true p below (inl e) = rw p (Memᴰ.head e)
      go true p below (inr m) = rw p (Memᴰ.tail (below m h))
      go false p below (inl e) = absurd (both_ways (f y) p (rw e at h))
      go false p below (inr m) = rw p (below m h)

  pub keep_pairs : (R : A → A → Type 0) (xs : List A) → Pairs R xs → Pairs R (keep f xs)
  unfolding keep
  keep_pairs R [] p = tt
  keep_pairs R (x ∷ xs) p = cond_both (f x) (x ∷ keep f xs) (keep f xs) (Pairs R) (λ _. (λ y m. p.0 y (kept_was xs y m).there, keep_pairs R xs p.1)) (λ _. keep_pairs R xs p.1)

  pub keep_length : (xs : List A) → length (keep f xs) ≤ length xs
  unfolding keep
  keep_length [] = omega arith
  keep_length (x ∷ xs) = cond_both (f x) (x ∷ keep f xs) (keep f xs) (λ ys. length ys ≤ suc (length xs)) (λ _. omega (arith, keep_length xs)) (λ _. omega (arith, keep_length xs))

  -- the first that passes, changed
  pub change_as : (g : A → A) (xs : List A) (x : A) → find f xs ≡ x ∷ [] → change f g xs ≡ change f (λ _. g x) xs
  unfolding find change
  change_as g [] x e = refl
  change_as g (y ∷ xs) x e = go (f y) refl (change_as g xs x)
    where
      go : (b : Bool) → f y ≡ b → (find f xs ≡ x ∷ [] → change f g xs ≡ change f (λ _. g x) xs) →
          cond (f y) (g y ∷ xs) (y ∷ change f g xs) ≡ cond (f y) (g x ∷ xs) (y ∷ change f (λ _. g x) xs)
      go true p below = let q : y ≡ x = cc in rw (p, q) refl
      go false p below = rw p (ap (λ zs. y ∷ zs) (below (rw p at e)))

  pub change_again : (g : A → A) (y : A) (xs : List A) → f y ≡ true → change f g (change f (λ _. y) xs) ≡ change f (λ _. g y) xs
  unfolding change
  change_again g y [] h = refl
  change_again g y (x ∷ xs) h = go (f x) refl (change_again g y xs h)
    where
      go : (b : Bool) → f x ≡ b → change f g (change f (λ _. y) xs) ≡ change f (λ _. g y) xs →
          change f g (cond (f x) (y ∷ xs) (x ∷ change f (λ _. y) xs)) ≡ cond (f x) (g y ∷ xs) (x ∷ change f (λ _. g y) xs)
      go true p below = rw (p, h) refl
      go false p below = rw p (rw p (ap (λ zs. x ∷ zs) below))

  pub changed_was : (g : A → A) (xs : List A) (z : A) → Memᴰ z (change f g xs) → Changed f g xs z
  unfolding change
  changed_was g [] z m = inr m
  changed_was g (x ∷ xs) z m = go (f x) refl (changed_was g xs z)
    where
      Was : List A → Type 0
      Was ys = Changed f g ys z

      first : f x ≡ true → (z ≡ g x) ⊎ Memᴰ z xs → Was (x ∷ xs)
      first p (inl e) = inl (x, e, record { there = Memᴰ.head refl; passes = p })
      first p (inr m) = inr (Memᴰ.tail m)

      deeper : Was xs → Was (x ∷ xs)
      deeper (inl t) = inl (t.0, t.1, record { there = Memᴰ.tail t.2.there; passes = t.2.passes })
      deeper (inr m) = inr (Memᴰ.tail m)

      later : (Memᴰ z (change f g xs) → Was xs) → (z ≡ x) ⊎ Memᴰ z (change f g xs) → Was (x ∷ xs)
      later below (inl e) = inr (Memᴰ.head e)
      later below (inr m) = deeper (below m)

      go : (b : Bool) → f x ≡ b → (Memᴰ z (change f g xs) → Was xs) → Was (x ∷ xs)
      go true p below = first p (Memᴰ.cases_cons (rw p at m))
      go false p below = later below (Memᴰ.cases_cons (rw p at m))

  -- what was there is there still, or is the one that was changed
  pub changed_is : (g : A → A) (xs : List A) (z : A) → Memᴰ z xs → Memᴰ z (change f g xs) ⊎ ((f z ≡ true) × Memᴰ (g z) (change f g xs))
  unfolding change
  changed_is g [] z m = inl m
  changed_is g (x ∷ xs) z m = go (f x) refl (changed_is g xs z) (Memᴰ.cases_cons m)
    where
      Is : List A → Type 0
      Is ys = Memᴰ z ys ⊎ ((f z ≡ true) × Memᴰ (g z) ys)

      deeper : Is (change f g xs) → Is (x ∷ change f g xs)
      deeper (inl m) = inl (Memᴰ.tail m)
      deeper (inr t) = inr (t.0, Memᴰ.tail t.1)

      go : (b : Bool) → f x ≡ b → (Memᴰ z xs → Is (change f g xs)) → (z ≡ x) ⊎ Memᴰ z xs → Is (cond (f x) (g x ∷ xs) (x ∷ change f g xs))
      go true p below (inl e) = rw p (inr (rw e p, Memᴰ.head (ap g e)))
      go true p below (inr m) = rw p (inl (Memᴰ.tail m))
      go false p below (inl e) = rw p (inl (Memᴰ.head e))
      go false p below (inr m) = rw p (deeper (below m))

  pub change_pairs : (g : A → A) (R : A → A → Type 0) → ((x y : A) → f x ≡ true → R x y → R (g x) y) → ((x y : A) → f y ≡ true → R x y → R x (g y)) → (xs : List A) →
      Pairs R xs → Pairs R (change f g xs)
  unfolding change
  change_pairs g R upper lower [] p = tt
  change_pairs g R upper lower (x ∷ xs) p =
      cond_both (f x) (g x ∷ xs) (x ∷ change f g xs) (Pairs R) (λ e. (λ y m. upper x y e (p.0 y m), p.1)) (λ _. (λ y m. below y (changed_was g xs y m), change_pairs g R upper lower xs p.1))
    where
      below : (y : A) → Changed f g xs y → R x y
      below y (inl t) = subst (R x) (sym t.1) (lower x t.0 t.2.passes (p.0 t.0 t.2.there))
      below y (inr m) = p.0 y m

  pub change_length : (g : A → A) (xs : List A) → length (change f g xs) ≡ length xs
  unfolding change
  change_length g [] = refl
  change_length g (x ∷ xs) = cond_both (f x) (g x ∷ xs) (x ∷ change f g xs) (λ ys. length ys ≡ suc (length xs)) (λ _. refl) (λ _. ap suc (change_length g xs))

  pub find_changed : (y : A) (xs : List A) (x : A) → find f xs ≡ x ∷ [] → f y ≡ true → find f (change f (λ _. y) xs) ≡ y ∷ []
  unfolding find change
  find_changed y [] x e h = absurd (let z : ◌≡◌ {A = ℕ} 0 1 = cc in omega arith)
  find_changed y (w ∷ xs) x e h = go (f w) refl (find_changed y xs x)
    where
      go : (b : Bool) → f w ≡ b → (find f xs ≡ x ∷ [] → f y ≡ true → find f (change f (λ _. y) xs) ≡ y ∷ []) → find f (cond (f w) (y ∷ xs) (w ∷ change f (λ _. y) xs)) ≡ y ∷ []
      go true p below = rw (p, h) refl
      go false p below = rw p (rw p (below (rw p at e) h))

  -- another test finds what it found
  pub find_unchanged : (h : A → Bool) (y : A) → ((z : A) → f z ≡ true → h z ≡ false) → h y ≡ false → (xs : List A) → find h (change f (λ _. y) xs) ≡ find h xs
  unfolding find change
  find_unchanged h y apart e [] = refl
  find_unchanged h y apart e (x ∷ xs) = go (f x) refl (find_unchanged h y apart e xs)
    where
      go : (b : Bool) → f x ≡ b → find h (change f (λ _. y) xs) ≡ find h xs → find h (cond (f x) (y ∷ xs) (x ∷ change f (λ _. y) xs)) ≡ cond (h x) (x ∷ []) (find h xs)
      go true p below = rw (p, e, apart x p) refl
      go false p below = rw (p, below) refl

  pub find_kept : (h : A → Bool) → ((z : A) → h z ≡ true → f z ≡ true) → (xs : List A) → find h (keep f xs) ≡ find h xs
  unfolding find keep
  find_kept h sub [] = refl
  find_kept h sub (x ∷ xs) = go (f x) (h x) refl refl (find_kept h sub xs)
    where
      go : (b c : Bool) → f x ≡ b → h x ≡ c → find h (keep f xs) ≡ find h xs → find h (cond (f x) (x ∷ keep f xs) (keep f xs)) ≡ cond (h x) (x ∷ []) (find h xs)
      go true c p q below = rw (p, below) refl
      go false true p q below = absurd (both_ways (f x) p (sub x q))
      go false false p q below = rw (p, q, below) refl

  pub find_nothing : (xs : List A) → ((x : A) → Memᴰ x xs → f x ≡ false) → find f xs ≡ []
  unfolding find
  find_nothing [] h = refl
  find_nothing (x ∷ xs) h = rw (h x (Memᴰ.head refl), find_nothing xs (λ y m. h y (Memᴰ.tail m))) refl

  pub find_pushed : (y : A) (xs : List A) → Pushed f y xs
  unfolding find
  find_pushed y [] = go (f y) refl
    where
      go : (b : Bool) → f y ≡ b → Pushed f y []
      go true p = inr (refl, p, rw p refl)
      go false p = inl (rw p refl)
  find_pushed y (x ∷ xs) = go (f x) refl (find_pushed y xs)
    where
      go : (b : Bool) → f x ≡ b → Pushed f y xs → Pushed f y (x ∷ xs)
      go true p below = inl (rw p refl)
      go false p (inl e) = inl (rw (p, e) refl)
      go false p (inr t) = inr (rw p t.0, t.1, rw p t.2)

pub pairs_pushed : {A : Type 0} (R : A → A → Type 0) (y : A) (xs : List A) → Pairs R xs → ((x : A) → Memᴰ x xs → R x y) → Pairs R (xs ++ (y ∷ []))
pairs_pushed R y [] p h = (λ z m. absurd (Memᴰ.not-nil m), tt)
pairs_pushed {A} R y (x ∷ xs) p h = (λ z m. last z (Memᴰ.append_cases xs m), pairs_pushed R y xs p.1 (λ z m. h z (Memᴰ.tail m)))
  where
    last : (z : A) → Memᴰ z xs ⊎ Memᴰ z (y ∷ []) → R x z
    last z (inl m) = p.0 z m
    last z (inr m) = subst (R x) (sym (Memᴰ.eq_of_singleton m)) (h x (Memᴰ.head refl))

-- where of each two the first stands so to the second and not the other way round, two that are there are one, or stand so one way
pub pairs_of : {A : Type 0} (R : A → A → Type 0) (xs : List A) → Pairs R xs → (x y : A) → Memᴰ x xs → Memᴰ y xs → (x ≡ y) ⊎ (R x y ⊎ R y x)
pairs_of R [] p x y m n = absurd (Memᴰ.not-nil m)
pairs_of {A} R (z ∷ xs) p x y m n = join (pairs_of R xs p.1 x y) (Memᴰ.cases_cons m) (Memᴰ.cases_cons n)
  where
    join : (Memᴰ x xs → Memᴰ y xs → (x ≡ y) ⊎ (R x y ⊎ R y x)) → (x ≡ z) ⊎ Memᴰ x xs → (y ≡ z) ⊎ Memᴰ y xs → (x ≡ y) ⊎ (R x y ⊎ R y x)
    join below (inl e) (inl d) = inl (e ∙ sym d)
    join below (inl e) (inr n) = inr (inl (rw e (p.0 y n)))
    join below (inr m) (inl d) = inr (inr (rw d (p.0 x m)))
    join below (inr m) (inr n) = below m n

pub find_mapped : {A : Type 0} (f : A → Bool) (g : A → A) → ((x : A) → f (g x) ≡ f x) → (xs : List A) → find f (map g xs) ≡ map g (find f xs)
unfolding find
find_mapped f g e [] = refl
find_mapped {A} f g e (x ∷ xs) = go (f x) refl (find_mapped f g e xs)
  where
    go : (b : Bool) → f x ≡ b → find f (map g xs) ≡ map g (find f xs) → cond (f (g x)) (g x ∷ []) (find f (map g xs)) ≡ map g (cond (f x) (x ∷ []) (find f xs))
    go true p below = rw (e x, p) refl
    go false p below = rw (e x, p) below

pub mapped_pairs : {A : Type 0} (g : A → A) (R : A → A → Type 0) → ((x y : A) → R x y → R (g x) (g y)) → (xs : List A) → Pairs R xs → Pairs R (map g xs)
mapped_pairs g R h [] p = tt
mapped_pairs g R h (x ∷ xs) p = (λ y m. let t = Memᴰ.of_map g xs m in subst (R (g x)) t.2 (h x t.0 (p.0 t.0 t.1)), mapped_pairs g R h xs p.1)
