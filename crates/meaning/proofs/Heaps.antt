-- The versions under one key: what is so of them stays so when one comes on top, some go, a hold grows, or rules take them.
-- Assumes nothing.
use Rattle.std.proofs.Common.{◌≡◌, ℕ, suc, ◌+◌, ◌<◌, ◌≤◌, Bool, true, false, cond, not, ◌&&◌, T, ltb, ◌⊎◌, List, [], ◌∷◌, length, sym, refl, ap, ◌∙◌, subst, inl, inr, arith}
use mathlib.Core.List.Memᴰ
use mathlib.Core.List.{Memᴰ}
use Rattle.std.proofs.lemmas.Bool.{cond_both, and_parts, not-true, ltb-true, cases_lt, true≢false}
use Rattle.meaning.specs.Lists.{keep, find, change}
use Rattle.meaning.specs.Rooms.{Body, Bytes, Removed, Version, Rule}
use Rattle.meaning.specs.Does.{is_held, is_removed, on_top, is_num, higher, due, old_kept, tidy, covered, aged, small}
use Rattle.meaning.specs.Laws.{VersionFits}
use Rattle.meaning.proofs.Good.{Pairs, Over}
use Rattle.meaning.proofs.Finds.{Changed, Found, found, kept_was, keep_pairs, keep_length, change_as, changed_was, change_pairs, change_length, pairs_of}
use Rattle.meaning.proofs.Steps.{hold_to}

pub record Heap (now next : ℕ) (keeps : Bool) (vs : List Version) : Type 0 where
  pub few : length vs ≤ 1025
  pub rules_mark : length vs ≡ 1025 → (v : Version) (ws : List Version) → vs ≡ v ∷ ws → v.num ≡ 0
  pub each_fits : (v : Version) → Memᴰ v vs → VersionFits now next v
  pub stacked : Pairs (Over keeps) vs

-- in one list a number is one version
pub one_version : {now next : ℕ} {keeps : Bool} (vs : List Version) → Heap now next keeps vs → (v w : Version) → Memᴰ v vs → Memᴰ w vs → 1 ≤ v.num → v.num ≡ w.num → v ≡ w
one_version {keeps} vs h v w i j one e = go (pairs_of (Over keeps) vs h.stacked v w i j)
  where
    go : (v ≡ w) ⊎ (Over keeps v w ⊎ Over keeps w v) → v ≡ w
    go (inl d) = d
    go (inr (inl o)) = absurd (omega (arith, o.higher one))
    go (inr (inr o)) = absurd (omega (arith, o.higher (omega arith)))

pub heap_none : (now next : ℕ) (keeps : Bool) → Heap now next keeps []
heap_none now next keeps = record { few = omega arith; rules_mark = λ e. absurd (omega arith); each_fits = λ v m. absurd (Memᴰ.not-nil m); stacked = tt }

pub version_later : {now next now' next' : ℕ} {v : Version} → now ≤ now' → next ≤ next' → VersionFits now next v → VersionFits now' next' v
version_later p q f = record { num_below = omega (arith, f.num_below); numbered = f.numbered; came = omega (arith, f.came); hold_small = f.hold_small; mark_not_held = f.mark_not_held; of_bytes = f.of_bytes }

pub heap_later : {now next now' next' : ℕ} {keeps : Bool} {vs : List Version} → now ≤ now' → next ≤ next' → Heap now next keeps vs → Heap now' next' keeps vs
heap_later p q h = record { few = h.few; rules_mark = h.rules_mark; each_fits = λ v m. version_later p q (h.each_fits v m); stacked = h.stacked }

-- where nothing was left out, all is there
keep_whole : {A : Type 0} (f : A → Bool) (xs : List A) → length xs ≤ length (keep f xs) → keep f xs ≡ xs
unfolding keep
keep_whole f [] h = refl
keep_whole {A} f (x ∷ xs) h = go (f x) refl (keep_whole f xs)
  where
    go : (b : Bool) → f x ≡ b → (length xs ≤ length (keep f xs) → keep f xs ≡ xs) → cond (f x) (x ∷ keep f xs) (keep f xs) ≡ x ∷ xs
    go true e below = rw e (ap (λ ys. x ∷ ys) (below (let k : suc (length xs) ≤ length (x ∷ keep f xs) = rw e at h in omega arith)))
    go false e below = absurd (let k : suc (length xs) ≤ length (keep f xs) = rw e at h in omega (arith, keep_length f xs))

pub heap_keep : {now next : ℕ} {keeps : Bool} (f : Version → Bool) (vs : List Version) → Heap now next keeps vs → Heap now next keeps (keep f vs)
heap_keep {keeps} f vs h =
    record {
      few = omega (arith, h.few, keep_length f vs);
      rules_mark = λ e v ws d. h.rules_mark (omega (arith, e, h.few, keep_length f vs)) v ws (sym (keep_whole f vs (omega (arith, e, h.few))) ∙ d);
      each_fits = λ v m. h.each_fits v (kept_was f vs v m).there;
      stacked = keep_pairs f (Over keeps) vs h.stacked;
    }

-- a hold that grows

higher_small : (a b : ℕ) → T (small a) → T (small b) → T (small (higher a b))
higher_small a b p q = cond_both (ltb a b) b a (λ c. T (small c)) (λ _. q) (λ _. p)

pub higher_left : (a b : ℕ) → a ≤ higher a b
higher_left a b = cond_both (ltb a b) b a (λ c. a ≤ c) (λ e. omega (arith, ltb-true a b e)) (λ _. omega arith)

not_removed : (b : Body) → is_removed b ≡ false → b ≡ Removed → ⊥
unfolding is_removed
not_removed b e d = true≢false (rw d at e)

pub hold_fits : {now next : ℕ} (until : ℕ) (v : Version) → T (small until) → is_removed v.body ≡ false → VersionFits now next v → VersionFits now next (hold_to until v)
hold_fits until v t e f =
    record {
      num_below = f.num_below;
      numbered = f.numbered;
      came = f.came;
      hold_small = higher_small v.held until f.hold_small t;
      mark_not_held = λ d. absurd (not_removed v.body e d);
      of_bytes = f.of_bytes;
    }

-- the latest keeps its number
change_top : (num until : ℕ) (vs : List Version) (v : Version) (ws : List Version) → change (is_num num) (hold_to until) vs ≡ v ∷ ws →
    (u : Version) × (us : List Version) × (vs ≡ u ∷ us) × (v.num ≡ u.num)
unfolding change
change_top num until [] v ws e = absurd (let z : ◌≡◌ {A = ℕ} 0 1 = cc in omega arith)
change_top num until (u ∷ us) v ws e = (u, us, refl, go (is_num num u) refl)
  where
    go : (b : Bool) → is_num num u ≡ b → v.num ≡ u.num
    go true d = let e' : hold_to until u ∷ us ≡ v ∷ ws = rw d at e in let x : v ≡ hold_to until u = cc in rw x refl
    go false d = let e' : u ∷ change (is_num num) (hold_to until) us ≡ v ∷ ws = rw d at e in let x : v ≡ u = cc in rw x refl

pub heap_longer : {now next : ℕ} {keeps : Bool} (num until : ℕ) (v : Version) (vs : List Version) → T (small until) → find (is_num num) vs ≡ v ∷ [] →
    is_removed v.body ≡ false → Heap now next keeps vs → Heap now next keeps (change (is_num num) (hold_to until) vs)
heap_longer {now} {next} {keeps} num until v vs t e d h =
    record {
      few = omega (arith, h.few, change_length (is_num num) (hold_to until) vs);
      rules_mark = λ l w ws x. let (u, us, a, b) = change_top num until vs w ws x in b ∙ h.rules_mark (sym (change_length (is_num num) (hold_to until) vs) ∙ l) u us a;
      each_fits = λ w m. one w (changed_was (is_num num) (λ _. hold_to until v) vs w (rw (change_as (is_num num) (hold_to until) vs v e) at m));
      stacked = change_pairs (is_num num) (hold_to until) (Over keeps) upper lower vs h.stacked;
    }
  where
    upper : (x y : Version) → is_num num x ≡ true → Over keeps x y → Over keeps (hold_to until x) y
    upper x y _ o = record { later = o.later; higher = o.higher; was_held = o.was_held }

    lower : (x y : Version) → is_num num y ≡ true → Over keeps x y → Over keeps x (hold_to until y)
    lower x y _ o = record { later = o.later; higher = o.higher; was_held = λ k. omega (arith, o.was_held k, higher_left y.held until) }

    one : (w : Version) → Changed (is_num num) (λ _. hold_to until v) vs w → VersionFits now next w
    one w (inl x) = rw x.1 (hold_fits until v t d (h.each_fits v (found (is_num num) vs v [] e).there))
    one w (inr m) = h.each_fits w m

-- one that comes on top
pub heap_on_top : {now next : ℕ} (keeps : Bool) (v : Version) (vs : List Version) → VersionFits now (next + 1) v → v.at ≡ now → v.num ≡ next → length vs < 1024 →
    Heap now next keeps vs → Heap now (next + 1) keeps (on_top now keeps v vs)
heap_on_top {now} {next} true v vs f a n l h =
    record {
      few = omega arith;
      rules_mark = λ e. absurd (omega arith);
      each_fits = λ w m. elim (Memᴰ.cases_cons m) [ inl e ↦ rw e f | inr k ↦ version_later (omega arith) (omega arith) (h.each_fits w k) ];
      stacked = (λ w m. record { later = omega (arith, (h.each_fits w m).came, a); higher = λ _. omega (arith, (h.each_fits w m).num_below, n); was_held = λ e. absurd (true≢false e) }, h.stacked);
    }
heap_on_top {now} {next} false v vs f a n l h =
    record {
      few = omega (arith, keep_length (is_held now) vs);
      rules_mark = λ e. absurd (omega (arith, keep_length (is_held now) vs));
      each_fits = λ w m. elim (Memᴰ.cases_cons m) [ inl e ↦ rw e f | inr k ↦ version_later (omega arith) (omega arith) (h.each_fits w (kept_was (is_held now) vs w k).there) ];
      stacked = (λ w m. over w (kept_was (is_held now) vs w m), keep_pairs (is_held now) (Over false) vs h.stacked);
    }
  where
    over : (w : Version) → Found (is_held now) vs w → Over false v w
    over w k = record { later = omega (arith, (h.each_fits w k.there).came, a); higher = λ _. omega (arith, (h.each_fits w k.there).num_below, n); was_held = λ _. omega (arith, ltb-true now w.held k.passes) }

-- WHAT RULES LEAVE

abbrev pub mark : ℕ → Version
mark now = record { num = 0; body = Removed; at = now; held = 0 }

pub old_was : (now l at : ℕ) (vs : List Version) (w : Version) → Memᴰ w (old_kept now l at vs) → Memᴰ w vs
unfolding old_kept
old_was now l at [] w m = m
old_was now l at (v ∷ vs) w m = go (due now l at && not (is_held now v)) refl (old_was now l v.at vs w)
  where
    rest : List Version
    rest = old_kept now l v.at vs

    first : (Memᴰ w rest → Memᴰ w vs) → (w ≡ v) ⊎ Memᴰ w rest → Memᴰ w (v ∷ vs)
    first below (inl e) = Memᴰ.head e
    first below (inr m) = Memᴰ.tail (below m)

    go : (b : Bool) → (due now l at && not (is_held now v)) ≡ b → (Memᴰ w rest → Memᴰ w vs) → Memᴰ w (v ∷ vs)
    go true e below = Memᴰ.tail (below (rw e at m))
    go false e below = first below (Memᴰ.cases_cons (rw e at m))

pub old_pairs : (R : Version → Version → Type 0) (now l at : ℕ) (vs : List Version) → Pairs R vs → Pairs R (old_kept now l at vs)
unfolding old_kept
old_pairs R now l at [] p = tt
old_pairs R now l at (v ∷ vs) p =
    let below = old_pairs R now l v.at vs p.1 in
    cond_both (due now l at && not (is_held now v)) (old_kept now l v.at vs) (v ∷ old_kept now l v.at vs) (Pairs R) (λ _. below) (λ _. (λ w m. p.0 w (old_was now l v.at vs w m), below))

pub old_length : (now l at : ℕ) (vs : List Version) → length (old_kept now l at vs) ≤ length vs
unfolding old_kept
old_length now l at [] = omega arith
old_length now l at (v ∷ vs) =
    let below = old_length now l v.at vs in
    cond_both (due now l at && not (is_held now v)) (old_kept now l v.at vs) (v ∷ old_kept now l v.at vs) (λ ws. length ws ≤ suc (length vs)) (λ _. omega arith) (λ _. omega arith)

pub tidy_cases : (vs : List Version) → (tidy vs ≡ []) ⊎ (tidy vs ≡ vs)
unfolding tidy
tidy_cases [] = inl refl
tidy_cases (v ∷ []) = cond_both (is_removed v.body) [] (v ∷ []) (λ ws. (ws ≡ []) ⊎ (ws ≡ v ∷ [])) (λ _. inl refl) (λ _. inr refl)
tidy_cases (v ∷ w ∷ vs) = inr refl

heap_tidy : {now next : ℕ} {keeps : Bool} (vs : List Version) → Heap now next keeps vs → Heap now next keeps (tidy vs)
heap_tidy {now} {next} {keeps} vs h = elim (tidy_cases vs) [ inl e ↦ rw e (heap_none now next keeps) | inr e ↦ rw e h ]

mark_fits : (now next : ℕ) → 1 ≤ next → VersionFits now next (mark now)
mark_fits now next p =
    record {
      num_below = omega arith;
      numbered = λ bs e. absurd (let z : ◌≡◌ {A = ℕ} 0 1 = cc in omega arith);
      came = omega arith;
      hold_small = tt;
      mark_not_held = λ _. refl;
      of_bytes = λ bs e. absurd (let z : ◌≡◌ {A = ℕ} 0 1 = cc in omega arith);
    }

-- a mark on top of what fits, with room for it
heap_marked : {now next : ℕ} {keeps : Bool} (vs : List Version) → 1 ≤ next → length vs ≤ 1024 → ((w : Version) → Memᴰ w vs → keeps ≡ false → 1 ≤ w.held) →
    Heap now next keeps vs → Heap now next keeps (mark now ∷ vs)
heap_marked {now} {next} vs p l k h =
    record {
      few = omega arith;
      rules_mark = λ _ v ws e. let x : mark now ≡ v = cc in rw (← x) refl;
      each_fits = λ w m. elim (Memᴰ.cases_cons m) [ inl e ↦ rw e (mark_fits now next p) | inr m' ↦ h.each_fits w m' ];
      stacked = (λ w m. record { later = (h.each_fits w m).came; higher = λ e. absurd (omega arith); was_held = k w m }, h.stacked);
    }

-- the latest, over what stays of the older ones
heap_older : {now next : ℕ} {keeps : Bool} (l : ℕ) (v : Version) (vs : List Version) → Heap now next keeps (v ∷ vs) → Heap now next keeps (v ∷ old_kept now l v.at vs)
heap_older {now} {keeps} l v vs h =
    record {
      few = omega (arith, h.few, old_length now l v.at vs);
      rules_mark = λ e w ws d. let x : v ≡ w = cc in rw (← x) (h.rules_mark (omega (arith, h.few, old_length now l v.at vs)) v vs refl);
      each_fits = λ w m. h.each_fits w (elim (Memᴰ.cases_cons m) [ inl e ↦ Memᴰ.head e | inr m' ↦ Memᴰ.tail (old_was now l v.at vs w m') ]);
      stacked = (λ w m. h.stacked.0 w (old_was now l v.at vs w m), old_pairs (Over keeps) now l v.at vs h.stacked.1);
    }

heap_tail : {now next : ℕ} {keeps : Bool} (v : Version) (vs : List Version) → length vs ≤ 1024 → Heap now next keeps (v ∷ vs) → Heap now next keeps vs
heap_tail v vs l h = record { few = omega arith; rules_mark = λ e. absurd (omega arith); each_fits = λ w m. h.each_fits w (Memᴰ.tail m); stacked = h.stacked.1 }

-- what isn't removed has bytes, so it has a number, so the rules' mark isn't on top
below_mark : {now next : ℕ} {keeps : Bool} (v : Version) (vs : List Version) → is_removed v.body ≡ false → Heap now next keeps (v ∷ vs) → length (v ∷ vs) ≤ 1024
unfolding is_removed
below_mark v vs e h = go v.body refl
  where
    go : (b : Body) → v.body ≡ b → length (v ∷ vs) ≤ 1024
    go (Bytes bs) d = elim (cases_lt (length vs) 1024) [ inl l ↦ omega arith | inr l ↦ absurd (omega (arith, (h.each_fits v (Memᴰ.head refl)).numbered bs d, h.rules_mark (omega (arith, h.few)) v vs refl)) ]
    go Removed d = absurd (true≢false (rw d at e))

pub heap_aged : {now next : ℕ} (keeps : Bool) (xs : List Rule) (vs : List Version) → 1 ≤ next → Heap now next keeps vs → Heap now next keeps (aged now keeps xs vs)
unfolding aged covered
heap_aged keeps [] vs p h = h
heap_aged {now} {next} keeps (x ∷ xs) [] p h = h
heap_aged {now} {next} keeps (x ∷ xs) (v ∷ vs) p h =
    heap_tidy _ (cond_both (goes && not (is_held now v)) _ _ (Heap now next keeps) (λ e. takes keeps h (has_bytes e)) (λ _. heap_older x.old_lasts v vs h))
  where
    old : List Version
    old = old_kept now x.old_lasts v.at vs

    goes : Bool
    goes = due now x.lasts v.at && not (is_removed v.body)

    has_bytes : (goes && not (is_held now v)) ≡ true → is_removed v.body ≡ false
    has_bytes e = not-true (is_removed v.body) (and_parts (due now x.lasts v.at) (not (is_removed v.body)) (and_parts goes (not (is_held now v)) e).0).1

    hides : (ws : List Version) → length ws ≤ 1024 → ((w : Version) → Memᴰ w ws → 1 ≤ w.held) → Heap now next false ws → Heap now next false (covered now ws)
    hides [] l k h = h
    hides (w ∷ ws) l k h = heap_marked (w ∷ ws) p l (λ u m _. k u m) h

    takes : (k : Bool) → Heap now next k (v ∷ vs) → is_removed v.body ≡ false → Heap now next k (cond k (mark now ∷ v ∷ old) (covered now old))
    takes true h e = heap_marked (v ∷ old) p (omega (arith, below_mark v vs e h, old_length now x.old_lasts v.at vs)) (λ w m d. absurd (true≢false d)) (heap_older x.old_lasts v vs h)
    takes false h e =
        let l : length old ≤ 1024 = omega (arith, h.few, old_length now x.old_lasts v.at vs) in
        hides old l (λ w m. (h.stacked.0 w (old_was now x.old_lasts v.at vs w m)).was_held refl) (heap_tail v old l (heap_older x.old_lasts v vs h))

-- what rules leave was there, or is their mark
pub aged_was_or_mark : (now : ℕ) (keeps : Bool) (xs : List Rule) (vs : List Version) (w : Version) → Memᴰ w (aged now keeps xs vs) → Memᴰ w vs ⊎ (w.num ≡ 0)
unfolding aged covered
aged_was_or_mark now keeps [] vs w m = inl m
aged_was_or_mark now keeps (x ∷ xs) [] w m = inl m
aged_was_or_mark now keeps (x ∷ xs) (v ∷ vs) w m = untidied (tidy_cases (left goes keeps))
  where
    old : List Version
    old = old_kept now x.old_lasts v.at vs

    left : Bool → Bool → List Version
    left b k = cond b (cond k (mark now ∷ v ∷ old) (covered now old)) (v ∷ old)

    goes : Bool
    goes = due now x.lasts v.at && not (is_removed v.body) && not (is_held now v)

    Was : Type 0
    Was = Memᴰ w (v ∷ vs) ⊎ (w.num ≡ 0)

    older : Memᴰ w old → Was
    older m = inl (Memᴰ.tail (old_was now x.old_lasts v.at vs w m))

    latest : (w ≡ v) ⊎ Memᴰ w old → Was
    latest (inl e) = inl (Memᴰ.head e)
    latest (inr m) = older m

    under_mark : (ws : List Version) → (Memᴰ w ws → Was) → (w ≡ mark now) ⊎ Memᴰ w ws → Was
    under_mark ws below (inl e) = inr (rw e refl)
    under_mark ws below (inr m) = below m

    hidden : (ws : List Version) → (Memᴰ w ws → Was) → Memᴰ w (covered now ws) → Was
    hidden [] below m = absurd (Memᴰ.not-nil m)
    hidden (u ∷ ws) below m = under_mark (u ∷ ws) below (Memᴰ.cases_cons m)

    whole : (b k : Bool) → Memᴰ w (left b k) → Was
    whole true true m = under_mark (v ∷ old) (λ m'. latest (Memᴰ.cases_cons m')) (Memᴰ.cases_cons m)
    whole true false m = hidden old older m
    whole false k m = latest (Memᴰ.cases_cons m)

    untidied : (tidy (left goes keeps) ≡ []) ⊎ (tidy (left goes keeps) ≡ left goes keeps) → Was
    untidied (inl e) = absurd (Memᴰ.not-nil (subst (Memᴰ w) e m))
    untidied (inr e) = whole goes keeps (subst (Memᴰ w) e m)
