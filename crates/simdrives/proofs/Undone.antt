-- What writes, a sync and a cut make of a drive that is told by what it holds and what it held.
-- Assumes nothing.
use Rattle.std.proofs.Common.{◌≡◌, ℕ, zero, suc, Bool, true, false, cond, eqb, ◌⊎◌, List, [], ◌∷◌, ◌++◌, reverse, replicate, sym, refl, ap, ◌∙◌, subst, inl, inr, ⊎_elim, append_assoc, eq-eqb, eqb-true}
use mathlib.Core.List.{Memᴰ}
use Rattle.std.proofs.lemmas.List.{reverse-append}
use Rattle.drives.specs.Drives.{Drive, there, zeros, blank_drive, latest, shown, written_to, synced_one, CutSlot, cut}
use Rattle.simdrives.specs.Sims.{bytes_before, kept_by, since_by, drive_by}
use Rattle.simdrives.specs.declared.sectors.Before.{Before}

-- what is held is what was written last
pub held : (ws : List Before) (bs : List ℕ) (s : ℕ) → latest (kept_by ws bs s) (since_by ws bs s) ≡ bs
unfolding kept_by since_by latest
held [] bs s = refl
held (w ∷ ws) bs s =
    elim (eqb s w.sector) as (λ v. latest (cond v (kept_by ws (bytes_before w) s) (kept_by ws bs s)) (cond v (bs ∷ since_by ws (bytes_before w) s) (since_by ws bs s)) ≡ bs)
    [ true ↦ refl | false ↦ held ws bs s ]

pub read_is : (f : ℕ → List ℕ) (ws : List Before) (s : ℕ) → shown (there (drive_by f ws)) s ≡ f s
unfolding shown
read_is f ws s = held ws (f s) s

drive_eq : (d e : Drive) → ((s : ℕ) → d.kept s ≡ e.kept s) → ((s : ℕ) → d.since s ≡ e.since s) → d ≡ e
drive_eq d e p q = λ i. record { kept = λ s. p s i; since = λ s. q s i }

-- a write
pub wrote : (f g : ℕ → List ℕ) (ws : List Before) (w : Before) (b : List ℕ) →
    f w.sector ≡ bytes_before w → g w.sector ≡ b → ((t : ℕ) → eqb t w.sector ≡ false → g t ≡ f t) →
    there (drive_by g (w ∷ ws)) ≡ written_to w.sector b (there (drive_by f ws))
unfolding kept_by since_by written_to
wrote f g ws w b old new other = ap there (drive_eq _ _ (λ t. kept_at t (eqb t w.sector) refl) (λ t. since_at t (eqb t w.sector) refl))
  where
    kept_at : (t : ℕ) (v : Bool) → eqb t w.sector ≡ v → cond v (kept_by ws (bytes_before w) t) (kept_by ws (g t) t) ≡ kept_by ws (f t) t
    kept_at t true e = let p : t ≡ w.sector = eqb-true t w.sector e in ap (λ bs. kept_by ws bs t) (sym old ∙ sym (ap f p))
    kept_at t false e = ap (λ bs. kept_by ws bs t) (other t e)

    since_at : (t : ℕ) (v : Bool) → eqb t w.sector ≡ v →
        cond v (g t ∷ since_by ws (bytes_before w) t) (since_by ws (g t) t) ≡ cond v (b ∷ since_by ws (f w.sector) w.sector) (since_by ws (f t) t)
    since_at t true e =
        let p : t ≡ w.sector = eqb-true t w.sector e in
        let q : g t ≡ b = ap g p ∙ new in
        let r : since_by ws (bytes_before w) t ≡ since_by ws (f w.sector) w.sector = ap (λ bs. since_by ws bs t) (sym old) ∙ ap (since_by ws (f w.sector)) p in
        cc
    since_at t false e = ap (λ bs. since_by ws bs t) (other t e)

-- a sync
pub synced : (f : ℕ → List ℕ) (ws : List Before) → there (drive_by f []) ≡ synced_one (there (drive_by f ws))
unfolding kept_by since_by synced_one
synced f ws = ap there (drive_eq _ _ (λ s. sym (held ws (f s) s)) (λ s. refl))

-- what a sector may hold after a cut
abbrev pub Among : Drive → (ℕ → List ℕ) → Type 0
Among d g = (s : ℕ) → (g s ≡ d.kept s) ⊎ Memᴰ (g s) (d.since s)

-- what is held is among what may be left
pub held_among : (ws : List Before) (x : List ℕ) (s : ℕ) → (x ≡ kept_by ws x s) ⊎ Memᴰ x (since_by ws x s)
unfolding kept_by since_by
held_among [] x s = inl refl
held_among (w ∷ ws) x s =
    elim (eqb s w.sector) as (λ v. (x ≡ cond v (kept_by ws (bytes_before w) s) (kept_by ws x s)) ⊎ Memᴰ x (cond v (x ∷ since_by ws (bytes_before w) s) (since_by ws x s)))
    [ true ↦ inr (Memᴰ.head refl) | false ↦ held_among ws x s ]

more : {x y z : List ℕ} {bs : List (List ℕ)} → (x ≡ y) ⊎ Memᴰ x bs → (x ≡ y) ⊎ Memᴰ x (z ∷ bs)
more (inl e) = inl e
more (inr m) = inr (Memᴰ.tail m)

-- what was there before a write is among it too
pub before_among : (done rest : List Before) (w : Before) (bs : List ℕ) → (bytes_before w ≡ kept_by (done ++ w ∷ rest) bs w.sector) ⊎ Memᴰ (bytes_before w) (since_by (done ++ w ∷ rest) bs w.sector)
unfolding kept_by since_by
before_among [] rest w bs =
    let x = bytes_before w in
    let s = w.sector in
    subst (λ (v : Bool). (x ≡ cond v (kept_by rest x s) (kept_by rest bs s)) ⊎ Memᴰ x (cond v (bs ∷ since_by rest x s) (since_by rest bs s))) (sym (eq-eqb s s refl)) (more (held_among rest x s))
before_among (v ∷ done) rest w bs =
    let x = bytes_before w in
    let s = w.sector in
    let all = done ++ w ∷ rest in
    elim (eqb s v.sector) as (λ b. (x ≡ cond b (kept_by all (bytes_before v) s) (kept_by all bs s)) ⊎ Memᴰ x (cond b (bs ∷ since_by all (bytes_before v) s) (since_by all bs s)))
    [ true ↦ more (before_among done rest w (bytes_before v)) | false ↦ before_among done rest w bs ]

-- at first
pub among_first : (f : ℕ → List ℕ) (ws : List Before) → Among (drive_by f ws) f
among_first f ws s = held_among ws (f s) s

abbrev AmongAt : (ℕ → List ℕ) → List Before → ℕ → List ℕ → Type 0
AmongAt f ws s x = (x ≡ kept_by ws (f s) s) ⊎ Memᴰ x (since_by ws (f s) s)

-- one sector goes back by a write
pub among_back : (f g h : ℕ → List ℕ) (done rest : List Before) (w : Before) → Among (drive_by f (done ++ w ∷ rest)) g →
    (h w.sector ≡ bytes_before w) ⊎ (h w.sector ≡ g w.sector) → ((t : ℕ) → eqb t w.sector ≡ false → h t ≡ g t) → Among (drive_by f (done ++ w ∷ rest)) h
among_back f g h done rest w a here other t = go (eqb t w.sector) refl
  where
    at_w : AmongAt f (done ++ w ∷ rest) w.sector (h w.sector)
    at_w =
        ⊎_elim (λ q. subst (AmongAt f (done ++ w ∷ rest) w.sector) (sym q) (before_among done rest w (f w.sector)))
        (λ q. subst (AmongAt f (done ++ w ∷ rest) w.sector) (sym q) (a w.sector)) here

    go : (v : Bool) → eqb t w.sector ≡ v → AmongAt f (done ++ w ∷ rest) t (h t)
    go true e = subst (λ (s : ℕ). AmongAt f (done ++ w ∷ rest) s (h s)) (sym (eqb-true t w.sector e)) at_w
    go false e = subst (AmongAt f (done ++ w ∷ rest) t) (sym (other t e)) (a t)

-- at the end
pub cut_so : (d : Drive) (g : ℕ → List ℕ) → Among d g → CutSlot (there d) (there (drive_by g []))
unfolding kept_by since_by
cut_so d g a = cut d (drive_by g []) a (λ s. refl)

-- THE SAME, BY THE LIST WITH THE LATEST LAST

pub blank_so : (f : ℕ → List ℕ) (xs : List Before) → xs ≡ [] → ((s : ℕ) → f s ≡ zeros 512) → there (drive_by f (reverse xs)) ≡ there blank_drive
unfolding kept_by since_by
blank_so f xs e h = subst (λ (ys : List Before). there (drive_by f (reverse ys)) ≡ there blank_drive) (sym e) (ap there (drive_eq _ _ h (λ s. refl)))

pub synced_so : (f : ℕ → List ℕ) (xs ys : List Before) → xs ≡ [] → there (drive_by f (reverse xs)) ≡ synced_one (there (drive_by f (reverse ys)))
synced_so f xs ys e = subst (λ (zs : List Before). there (drive_by f (reverse zs)) ≡ synced_one (there (drive_by f (reverse ys)))) (sym e) (synced f (reverse ys))

pub reverse_last : (xs ys : List Before) (w : Before) → ys ≡ xs ++ w ∷ [] → reverse ys ≡ w ∷ reverse xs
reverse_last xs ys w e = ap reverse e ∙ reverse-append xs (w ∷ [])

pub wrote_so : (f g : ℕ → List ℕ) (xs ys : List Before) (w : Before) (b : List ℕ) → ys ≡ xs ++ w ∷ [] →
    f w.sector ≡ bytes_before w → g w.sector ≡ b → ((t : ℕ) → eqb t w.sector ≡ false → g t ≡ f t) →
    there (drive_by g (reverse ys)) ≡ written_to w.sector b (there (drive_by f (reverse xs)))
wrote_so f g xs ys w b e old new other =
    subst (λ (zs : List Before). there (drive_by g zs) ≡ written_to w.sector b (there (drive_by f (reverse xs)))) (sym (reverse_last xs ys w e)) (wrote f g (reverse xs) w b old new other)

pub zeros_so : (n : ℕ) → zeros n ≡ replicate n 0
unfolding zeros
zeros_so zero = refl
zeros_so (suc n) = ap (λ bs. 0 ∷ bs) (zeros_so n)

-- GOING BACK, FROM THE LAST ON

back_all : (done xs ys all : List Before) (w : Before) → reverse all ≡ done ++ reverse xs → xs ≡ ys ++ w ∷ [] → reverse all ≡ done ++ w ∷ reverse ys
back_all done xs ys all w p q = p ∙ ap (λ zs. done ++ zs) (reverse_last ys xs w q)

pub back_rest : (done xs ys all : List Before) (w : Before) → reverse all ≡ done ++ reverse xs → xs ≡ ys ++ w ∷ [] → reverse all ≡ (done ++ w ∷ []) ++ reverse ys
back_rest done xs ys all w p q = back_all done xs ys all w p q ∙ sym (append_assoc done (w ∷ []) (reverse ys))

pub back_among : (f g h : ℕ → List ℕ) (done xs ys all : List Before) (w : Before) → reverse all ≡ done ++ reverse xs → xs ≡ ys ++ w ∷ [] → Among (drive_by f (reverse all)) g →
    (h w.sector ≡ bytes_before w) ⊎ (h w.sector ≡ g w.sector) → ((t : ℕ) → eqb t w.sector ≡ false → h t ≡ g t) → Among (drive_by f (reverse all)) h
back_among f g h done xs ys all w p q a here other =
    let e = back_all done xs ys all w p q in
    subst (λ (zs : List Before). Among (drive_by f zs) h) (sym e) (among_back f g h done (reverse ys) w (subst (λ (zs : List Before). Among (drive_by f zs) g) e a) here other)

pub cut_all : (d : Drive) (g : ℕ → List ℕ) (xs : List Before) → xs ≡ [] → Among d g → CutSlot (there d) (there (drive_by g (reverse xs)))
cut_all d g xs e a = subst (λ (ys : List Before). CutSlot (there d) (there (drive_by g (reverse ys)))) (sym e) (cut_so d g a)
