-- What a room has under a key after an object was set, and after rules took things away.
-- Assumes nothing.
use Rattle.std.proofs.Common.{◌≡◌, ℕ, Bool, true, false, cond, not, ◌⊎◌, List, [], ◌∷◌, sym, refl, ap, ◌∙◌, inl, inr}
use mathlib.Core.List.Memᴰ
use mathlib.Core.List.{Memᴰ}
use Rattle.std.proofs.lemmas.Bool.{not_from_false, not-true}
use Rattle.meaning.specs.Lists.{Name, keep, find, less, same}
use Rattle.meaning.specs.Rooms.{Version, Object, Rule, Room}
use Rattle.meaning.specs.Does.{is_object, versions_of, set_object, aged, rule_for, kept, aged_objects}
use Rattle.meaning.proofs.Good.{Pairs, Before}
use Rattle.meaning.proofs.Names.{less_trans, less_total, less_unlike, same_eq, same_refl, same_unlike}
use Rattle.meaning.proofs.Finds.{kept_was, keep_pairs, find_kept, find_nothing}

abbrev pub under : Name → List Version → Object
under k vs = record { key = k; versions = vs }

-- each object afterwards is the one that was set, of some versions, or was there
abbrev pub SetOrWas : Name → List Version → List Object → Object → Type 0
SetOrWas k vs os o = ((o ≡ under k vs) × ((v : Version) × (ws : List Version) × (vs ≡ v ∷ ws))) ⊎ Memᴰ o os

pub set_was : (k : Name) (vs : List Version) (os : List Object) (o : Object) → Memᴰ o (set_object k vs os) → SetOrWas k vs os o
unfolding set_object
set_was k [] os o m = inr (kept_was (λ (p : Object). not (is_object k p)) os o m).there
set_was k (v ∷ vs) [] o m = first (Memᴰ.cases_cons m)
  where
    first : (o ≡ under k (v ∷ vs)) ⊎ Memᴰ o [] → SetOrWas k (v ∷ vs) [] o
    first (inl e) = inl (e, (v, vs, refl))
    first (inr m) = inr m
set_was k (v ∷ vs) (p ∷ os) o m = go (less k p.key) (less p.key k) refl refl (set_was k (v ∷ vs) os o)
  where
    Was : List Object → Type 0
    Was ps = SetOrWas k (v ∷ vs) ps o

    before : (o ≡ under k (v ∷ vs)) ⊎ Memᴰ o (p ∷ os) → Was (p ∷ os)
    before (inl e) = inl (e, (v, vs, refl))
    before (inr m) = inr m

    instead : (o ≡ under k (v ∷ vs)) ⊎ Memᴰ o os → Was (p ∷ os)
    instead (inl e) = inl (e, (v, vs, refl))
    instead (inr m) = inr (Memᴰ.tail m)

    deeper : Was os → Was (p ∷ os)
    deeper (inl t) = inl t
    deeper (inr m) = inr (Memᴰ.tail m)

    after : (Memᴰ o (set_object k (v ∷ vs) os) → Was os) → (o ≡ p) ⊎ Memᴰ o (set_object k (v ∷ vs) os) → Was (p ∷ os)
    after below (inl e) = inr (Memᴰ.head e)
    after below (inr m) = deeper (below m)

    go : (a b : Bool) → less k p.key ≡ a → less p.key k ≡ b → (Memᴰ o (set_object k (v ∷ vs) os) → Was os) → Was (p ∷ os)
    go true b e d below = before (Memᴰ.cases_cons (rw e at m))
    go false true e d below = after below (Memᴰ.cases_cons (rw (e, d) at m))
    go false false e d below = instead (Memᴰ.cases_cons (rw (e, d) at m))

pub set_pairs : (k : Name) (vs : List Version) (os : List Object) → Pairs Before os → Pairs Before (set_object k vs os)
unfolding set_object
set_pairs k [] os p = keep_pairs (λ (o : Object). not (is_object k o)) Before os p
set_pairs k (v ∷ vs) [] p = (λ y m. absurd (Memᴰ.not-nil m), tt)
set_pairs k (v ∷ vs) (o ∷ os) p = go (less k o.key) (less o.key k) refl refl (set_pairs k (v ∷ vs) os p.1)
  where
    new : Object
    new = under k (v ∷ vs)

    front : less k o.key ≡ true → (y : Object) → (y ≡ o) ⊎ Memᴰ y os → Before new y
    front e y (inl d) = rw d e
    front e y (inr m) = less_trans k o.key y.key e (p.0 y m)

    behind : less o.key k ≡ true → (y : Object) → SetOrWas k (v ∷ vs) os y → Before o y
    behind e y (inl t) = rw t.0 e
    behind e y (inr m) = p.0 y m

    go : (a b : Bool) → less k o.key ≡ a → less o.key k ≡ b → Pairs Before (set_object k (v ∷ vs) os) → Pairs Before (set_object k (v ∷ vs) (o ∷ os))
    go true b e d below = rw e (λ y m. front e y (Memᴰ.cases_cons m), p)
    go false true e d below = rw (e, d) (λ y m. behind d y (set_was k (v ∷ vs) os y m), below)
    go false false e d below = rw (e, d) (λ y m. rw (less_total k o.key e d) (p.0 y m), p.1)

-- where keys rise, what comes after an object has another key
pub none_after : (o : Object) (os : List Object) (k : Name) → Pairs Before (o ∷ os) → less k o.key ≡ true ⊎ (k ≡ o.key) → find (is_object k) os ≡ []
none_after o os k p h = find_nothing (is_object k) os (λ y m. same_unlike k y.key (λ e. less_unlike k y.key (before y m h) e))
  where
    before : (y : Object) → Memᴰ y os → less k o.key ≡ true ⊎ (k ≡ o.key) → less k y.key ≡ true
    before y m (inl e) = less_trans k o.key y.key e (p.0 y m)
    before y m (inr e) = rw e (p.0 y m)

pub found_set : (k : Name) (vs : List Version) (os : List Object) → Pairs Before os → versions_of (find (is_object k) (set_object k vs os)) ≡ vs
unfolding set_object find versions_of
found_set k [] os p = ap versions_of (find_nothing (is_object k) (keep (λ (o : Object). not (is_object k o)) os) (λ o m. not-true (is_object k o) (kept_was (λ (o : Object). not (is_object k o)) os o m).passes))
found_set k (v ∷ vs) [] p = rw (same_refl k) refl
found_set k (v ∷ vs) (o ∷ os) p = go (less k o.key) (less o.key k) refl refl (found_set k (v ∷ vs) os p.1)
  where
    go : (a b : Bool) → less k o.key ≡ a → less o.key k ≡ b → versions_of (find (is_object k) (set_object k (v ∷ vs) os)) ≡ v ∷ vs →
        versions_of (find (is_object k) (set_object k (v ∷ vs) (o ∷ os))) ≡ v ∷ vs
    go true b e d below = rw (e, same_refl k) refl
    go false true e d below = rw (e, d) (rw (e, d) below)
    go false false e d below = rw (e, d, same_refl k) refl

pub found_elsewhere : (k l : Name) (vs : List Version) (os : List Object) → (l ≡ k → ⊥) → find (is_object l) (set_object k vs os) ≡ find (is_object l) os
unfolding set_object find
found_elsewhere k l [] os h = find_kept (λ (o : Object). not (is_object k o)) (is_object l) (λ o e. not_from_false (is_object k o) (same_unlike k o.key (λ d. h (same_eq l o.key e ∙ sym d)))) os
found_elsewhere k l (v ∷ vs) [] h = rw (same_unlike l k h) refl
found_elsewhere k l (v ∷ vs) (o ∷ os) h = go (less k o.key) (less o.key k) refl refl (found_elsewhere k l (v ∷ vs) os h)
  where
    go : (a b : Bool) → less k o.key ≡ a → less o.key k ≡ b → find (is_object l) (set_object k (v ∷ vs) os) ≡ find (is_object l) os →
        find (is_object l) (set_object k (v ∷ vs) (o ∷ os)) ≡ find (is_object l) (o ∷ os)
    go true b e d below = rw (e, same_unlike l k h) refl
    go false true e d below = rw (e, d) (ap (λ ps. cond (is_object l o) (o ∷ []) ps) below)
    go false false e d below = rw (e, d, same_unlike l k h, same_unlike l o.key (λ x. h (x ∙ sym (less_total k o.key e d)))) refl

-- what rules leave of a room's objects
pub aged_none : (now : ℕ) (keeps : Bool) (xs : List Rule) → aged now keeps xs [] ≡ []
unfolding aged
aged_none now keeps [] = refl
aged_none now keeps (x ∷ xs) = refl

module _ (now : ℕ) (r : Room) where
  left : Name → List Version → List Version
  left k vs = aged now r.keeps (rule_for k r.rules) vs

  pub aged_was : (os : List Object) (o : Object) → Memᴰ o (aged_objects now r os) →
      (p : Object) × Memᴰ p os × (o.key ≡ p.key) × (o.versions ≡ aged now r.keeps (rule_for p.key r.rules) p.versions) × ((v : Version) × (vs : List Version) × (o.versions ≡ v ∷ vs))
  unfolding aged_objects kept left
  aged_was [] o m = absurd (Memᴰ.not-nil m)
  aged_was (p ∷ os) o m = go (left p.key p.versions) refl (aged_was os o)
    where
      Was : List Object → Type 0
      Was ps = (q : Object) × Memᴰ q ps × (o.key ≡ q.key) × (o.versions ≡ left q.key q.versions) × ((v : Version) × (vs : List Version) × (o.versions ≡ v ∷ vs))

      deeper : Was os → Was (p ∷ os)
      deeper t = (t.0, Memᴰ.tail t.1, t.2, t.3, t.4)

      first : (v : Version) (vs : List Version) → left p.key p.versions ≡ v ∷ vs → (Memᴰ o (aged_objects now r os) → Was os) →
          (o ≡ under p.key (v ∷ vs)) ⊎ Memᴰ o (aged_objects now r os) → Was (p ∷ os)
      first v vs e below (inl d) = (p, Memᴰ.head refl, ap (λ (x : Object). x.key) d, ap (λ (x : Object). x.versions) d ∙ sym e, (v, vs, ap (λ (x : Object). x.versions) d))
      first v vs e below (inr m) = deeper (below m)

      go : (vs : List Version) → left p.key p.versions ≡ vs → (Memᴰ o (aged_objects now r os) → Was os) → Was (p ∷ os)
      go [] e below = deeper (below (rw e at m))
      go (v ∷ vs) e below = first v vs e below (Memᴰ.cases_cons (rw e at m))

  pub aged_pairs : (os : List Object) → Pairs Before os → Pairs Before (aged_objects now r os)
  unfolding aged_objects kept left
  aged_pairs [] p = tt
  aged_pairs (o ∷ os) p = go (left o.key o.versions) (aged_pairs os p.1)
    where
      go : (vs : List Version) → Pairs Before (aged_objects now r os) → Pairs Before (kept o.key vs (aged_objects now r os))
      go [] below = below
      go (v ∷ vs) below = (λ y m. let t = aged_was os y m in rw t.2 (p.0 t.0 t.1), below)

  -- under a key stands what the rules leave of what stood there
  pub found_aged : (k : Name) (os : List Object) → Pairs Before os →
      versions_of (find (is_object k) (aged_objects now r os)) ≡ aged now r.keeps (rule_for k r.rules) (versions_of (find (is_object k) os))
  unfolding aged_objects kept left find versions_of
  found_aged k [] p = sym (aged_none now r.keeps (rule_for k r.rules))
  found_aged k (o ∷ os) p = go (same k o.key) refl (left o.key o.versions) refl (found_aged k os p.1)
    where
      Goal : Type 0
      Goal = versions_of (find (is_object k) (kept o.key (left o.key o.versions) (aged_objects now r os))) ≡ left k (versions_of (cond (same k o.key) (o ∷ []) (find (is_object k) os)))

      Below : Type 0
      Below = versions_of (find (is_object k) (aged_objects now r os)) ≡ left k (versions_of (find (is_object k) os))

      nothing : k ≡ o.key → find (is_object k) os ≡ []
      nothing e = none_after o os k p (inr e)

      go : (b : Bool) → same k o.key ≡ b → (vs : List Version) → left o.key o.versions ≡ vs → Below → Goal
      go true e [] d below = rw (d, e, below, nothing (same_eq k o.key e), aged_none now r.keeps (rule_for k r.rules), same_eq k o.key e, d) refl
      go true e (v ∷ vs) d below = rw (d, e, same_eq k o.key e, d) refl
      go false e [] d below = rw (d, e) below
      go false e (v ∷ vs) d below = rw (d, e) below
