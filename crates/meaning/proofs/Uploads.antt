-- The uploads of a room and their parts: what is so of them stays so when one begins, a part comes, and one goes.
-- Assumes nothing.
use Rattle.std.proofs.Common.{◌≡◌, ℕ, ◌+◌, ◌*◌, ◌<◌, ◌≤◌, Bool, true, false, not, ◌&&◌, T, eqb, ltb, ◌⊎◌, List, [], ◌∷◌, ◌++◌, length, refl, inl, inr, arith, length-append}
use mathlib.Core.List.Memᴰ
use mathlib.Core.List.{Memᴰ}
use Rattle.std.proofs.lemmas.Bool.{ltb-true, ltb-false, eqb-true, eqb-false}
use Rattle.meaning.specs.Lists.{Name, every, change}
use Rattle.meaning.specs.Rooms.{Part, Upload}
use Rattle.meaning.specs.Does.{bytes, name_ok, is_upload, set_part, joined}
use Rattle.meaning.specs.Laws.{PartFits, UploadFits}
use Rattle.meaning.proofs.Good.{Pairs, Earlier, Begun}
use Rattle.meaning.proofs.Finds.{Changed, kept_was, keep_pairs, keep_length, changed_was, change_pairs, change_length, pairs_pushed}
use Rattle.meaning.proofs.Steps.{with_part, others}

pub record Ups (next : ℕ) (us : List Upload) : Type 0 where
  pub few : length us ≤ 1024
  pub each_fits : (u : Upload) → Memᴰ u us → UploadFits next u
  pub rise : Pairs Begun us
  pub parts_rise : (u : Upload) → Memᴰ u us → Pairs Earlier u.parts

pub upload_later : {next next' : ℕ} {u : Upload} → next ≤ next' → UploadFits next u → UploadFits next' u
upload_later p f = record { key_fits = f.key_fits; from_one = f.from_one; num_below = omega (arith, f.num_below); few = f.few; each_fits = f.each_fits }

pub ups_later : {next next' : ℕ} {us : List Upload} → next ≤ next' → Ups next us → Ups next' us
ups_later p h = record { few = h.few; each_fits = λ u m. upload_later p (h.each_fits u m); rise = h.rise; parts_rise = h.parts_rise }

pub ups_others : {next : ℕ} (u : ℕ) (us : List Upload) → Ups next us → Ups next (others u us)
ups_others u us h =
    let other : Upload → Bool = λ (y : Upload). not (is_upload u y) in
    record {
      few = omega (arith, h.few, keep_length other us);
      each_fits = λ y m. h.each_fits y (kept_was other us y m).there;
      rise = keep_pairs other Begun us h.rise;
      parts_rise = λ y m. h.parts_rise y (kept_was other us y m).there;
    }

pub ups_begun : {next : ℕ} (k : Name) (us : List Upload) → 1 ≤ next → T (name_ok k) → length us < 1024 → Ups next us → Ups (next + 1) (us ++ (record { num = next; key = k; parts = [] } ∷ []))
ups_begun {next} k us p ok l h =
    record {
      few = omega (arith, length-append us (new ∷ []));
      each_fits = λ u m. elim (Memᴰ.append_cases us m) [ inl m' ↦ upload_later (omega arith) (h.each_fits u m') | inr m' ↦ rw (Memᴰ.eq_of_singleton m') fits ];
      rise = pairs_pushed Begun new us h.rise (λ u m. (h.each_fits u m).num_below);
      parts_rise = λ u m. elim (Memᴰ.append_cases us m) [ inl m' ↦ h.parts_rise u m' | inr m' ↦ rw (Memᴰ.eq_of_singleton m') tt ];
    }
  where
    new : Upload
    new = record { num = next; key = k; parts = [] }

    fits : UploadFits (next + 1) new
    fits = record { key_fits = ok; from_one = p; num_below = omega arith; few = omega arith; each_fits = λ x m. absurd (Memᴰ.not-nil m) }

-- PARTS

abbrev part : ℕ → List ℕ → Part
part p bs = record { place = p; bytes = bs }

part_was : (p : ℕ) (bs : List ℕ) (xs : List Part) (y : Part) → Memᴰ y (set_part p bs xs) → (y ≡ part p bs) ⊎ Memᴰ y xs
unfolding set_part
part_was p bs [] y m = Memᴰ.cases_cons m
part_was p bs (x ∷ xs) y m = go (ltb p x.place) (eqb p x.place) refl refl (part_was p bs xs y)
  where
    Was : List Part → Type 0
    Was ys = (y ≡ part p bs) ⊎ Memᴰ y ys

    deeper : Was xs → Was (x ∷ xs)
    deeper (inl e) = inl e
    deeper (inr m) = inr (Memᴰ.tail m)

    after : (Memᴰ y (set_part p bs xs) → Was xs) → (y ≡ x) ⊎ Memᴰ y (set_part p bs xs) → Was (x ∷ xs)
    after below (inl e) = inr (Memᴰ.head e)
    after below (inr m) = deeper (below m)

    go : (a b : Bool) → ltb p x.place ≡ a → eqb p x.place ≡ b → (Memᴰ y (set_part p bs xs) → Was xs) → Was (x ∷ xs)
    go true b e d below = Memᴰ.cases_cons (rw e at m)
    go false true e d below = deeper (Memᴰ.cases_cons (rw (e, d) at m))
    go false false e d below = after below (Memᴰ.cases_cons (rw (e, d) at m))

part_pairs : (p : ℕ) (bs : List ℕ) (xs : List Part) → Pairs Earlier xs → Pairs Earlier (set_part p bs xs)
unfolding set_part
part_pairs p bs [] h = (λ y m. absurd (Memᴰ.not-nil m), tt)
part_pairs p bs (x ∷ xs) h = go (ltb p x.place) (eqb p x.place) refl refl (part_pairs p bs xs h.1)
  where
    front : p < x.place → (y : Part) → (y ≡ x) ⊎ Memᴰ y xs → p < y.place
    front l y (inl e) = rw e l
    front l y (inr m) = omega (arith, h.0 y m)

    behind : x.place < p → (y : Part) → (y ≡ part p bs) ⊎ Memᴰ y xs → x.place < y.place
    behind l y (inl e) = rw e l
    behind l y (inr m) = h.0 y m

    go : (a b : Bool) → ltb p x.place ≡ a → eqb p x.place ≡ b → Pairs Earlier (set_part p bs xs) → Pairs Earlier (set_part p bs (x ∷ xs))
    go true b e d below = rw e (λ y m. front (ltb-true p x.place e) y (Memᴰ.cases_cons m), h)
    go false true e d below = rw (e, d) (λ y m. rw (eqb-true p x.place d) (h.0 y m), h.1)
    go false false e d below = let ne = eqb-false p x.place d in rw (e, d) (λ y m. behind (omega (arith, ltb-false p x.place e)) y (part_was p bs xs y m), below)

-- places that rise are no more than lie between the bounds
places_few : (a : ℕ) (xs : List Part) → Pairs Earlier xs → ((y : Part) → Memᴰ y xs → (a ≤ y.place) × (y.place ≤ 10000)) → a ≤ 10001 → length xs + a ≤ 10001
places_few a [] h k p = omega arith
places_few a (x ∷ xs) h k p =
    let b = k x (Memᴰ.head refl) in
    omega (arith, places_few (x.place + 1) xs h.1 (λ y m. (omega (arith, h.0 y m), (k y (Memᴰ.tail m)).1)) (omega arith))

parted_fits : {next : ℕ} (p : ℕ) (bs : List ℕ) (u : Upload) → PartFits (part p bs) → Pairs Earlier u.parts → UploadFits next u → UploadFits next (with_part p bs u)
parted_fits p bs u ok h f =
    record {
      key_fits = f.key_fits;
      from_one = f.from_one;
      num_below = f.num_below;
      few = omega (arith, places_few 1 (set_part p bs u.parts) (part_pairs p bs u.parts h) (λ y m. ((each y m).from_one, (each y m).place_below)) (omega arith));
      each_fits = each;
    }
  where
    each : (y : Part) → Memᴰ y (set_part p bs u.parts) → PartFits y
    each y m = elim (part_was p bs u.parts y m) [ inl e ↦ rw e ok | inr m' ↦ f.each_fits y m' ]

pub ups_parted : {next : ℕ} (u p : ℕ) (bs : List ℕ) (us : List Upload) → 1 ≤ p → p ≤ 10000 → length bs ≤ 5242880 → T (bytes bs) → Ups next us →
    Ups next (change (is_upload u) (with_part p bs) us)
ups_parted {next} u p bs us a b l ok h =
    record {
      few = omega (arith, h.few, change_length (is_upload u) (with_part p bs) us);
      each_fits = λ y m. each y (changed_was (is_upload u) (with_part p bs) us y m);
      rise = change_pairs (is_upload u) (with_part p bs) Begun (λ x y _ r. r) (λ x y _ r. r) us h.rise;
      parts_rise = λ y m. rises y (changed_was (is_upload u) (with_part p bs) us y m);
    }
  where
    Was : Upload → Type 0
    Was y = Changed (is_upload u) (with_part p bs) us y

    fits : PartFits (part p bs)
    fits = record { from_one = a; place_below = b; short = l; of_bytes = ok }

    each : (y : Upload) → Was y → UploadFits next y
    each y (inl t) = rw t.1 (parted_fits p bs t.0 fits (h.parts_rise t.0 t.2.there) (h.each_fits t.0 t.2.there))
    each y (inr m) = h.each_fits y m

    rises : (y : Upload) → Was y → Pairs Earlier y.parts
    rises y (inl t) = rw t.1 (part_pairs p bs t.0.parts (h.parts_rise t.0 t.2.there))
    rises y (inr m) = h.parts_rise y m

-- JOINED

every_append : {A : Type 0} (f : A → Bool) (xs ys : List A) → T (every f xs) → T (every f ys) → T (every f (xs ++ ys))
unfolding every
every_append f [] ys p q = q
every_append {A} f (x ∷ xs) ys p q = go (f x) p (every_append f xs ys)
  where
    go : (b : Bool) → T (b && every f xs) → (T (every f xs) → T (every f ys) → T (every f (xs ++ ys))) → T (b && every f (xs ++ ys))
    go true p below = below p q
    go false p below = absurd p

pub joined_bytes : (xs : List Part) → ((y : Part) → Memᴰ y xs → PartFits y) → T (bytes (joined xs))
unfolding joined every
joined_bytes [] h = tt
joined_bytes (x ∷ xs) h = every_append (λ (b : ℕ). ltb b 256) x.bytes (joined xs) (h x (Memᴰ.head refl)).of_bytes (joined_bytes xs (λ y m. h y (Memᴰ.tail m)))

pub joined_length : (xs : List Part) → ((y : Part) → Memᴰ y xs → PartFits y) → length (joined xs) ≤ 5242880 * length xs
unfolding joined
joined_length [] h = omega arith
joined_length (x ∷ xs) h = omega (arith, length-append x.bytes (joined xs), (h x (Memᴰ.head refl)).short, joined_length xs (λ y m. h y (Memᴰ.tail m)))
