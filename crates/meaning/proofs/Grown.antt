-- What calls do to the weight: only making a room, putting, beginning an upload, putting a part and removing the latest make it grow.
-- Assumes nothing.
use Rattle.std.proofs.Common.{◌≡◌, ℕ, ◌+◌, ◌<◌, ◌≤◌, Bool, true, false, cond, not, ◌⊎◌, List, [], ◌∷◌, map, refl, inl, inr, arith}
use mathlib.Core.List.Memᴰ
use mathlib.Core.List.{Memᴰ}
use Rattle.std.proofs.lemmas.Bool.{cond_both}
use Rattle.meaning.specs.Lists.{Name, keep, find, change, none, less}
use Rattle.meaning.specs.Rooms.{Bytes, Version, Object, Upload, Room, State, blank, Call, Reply, Full, Out}
use Rattle.meaning.specs.Does.{is_room, is_upload, on_top, later, is_object, is_held, is_num, bytes_of, versions_of, at', set_object, joined, rule_for, aged, kept, aged_objects, aged_room}
use Rattle.meaning.specs.Weights.{versions_weight, objects_weight, parts_weight, uploads_weight, rooms_weight, weight}
use Rattle.meaning.specs.Answers.{Answers, says_so, not_yet, too_full}
use Rattle.meaning.specs.Laws.{Run, WeightGrows, FullOnly, Grows, making, putting, beginning, putting_a_part, removing_the_latest}
use Rattle.meaning.proofs.Good.{Pairs, Before, Good}
use Rattle.meaning.proofs.Finds.{found, at_find}
use Rattle.meaning.proofs.Objects.{none_after}
use Rattle.meaning.proofs.Refusals.{never_full}
use Rattle.meaning.proofs.Bounds.{good}
use Rattle.meaning.proofs.Steps.{fresh, hold_to, others, without, by_put, by_remove, by_complete, Sets, new, gone, fewer, longer, Within, sets, begun, parted, aborted, ruled, Step, stands, made, dropped, told, within, steps}
use Rattle.meaning.proofs.Weighs.{joined_light, Plain, step_most, lighter, keep_thinned, held_weighs, aged_lighter}

-- THINGS

-- a thing that isn't there yet weighs 1,024 besides its versions
abbrev spare : List Version → ℕ
spare vs = cond (none vs) 1024 0

set_object_none : (k : Name) (os : List Object) → objects_weight (set_object k [] os) ≤ objects_weight os
unfolding set_object keep objects_weight
set_object_none k [] = omega arith
set_object_none k (o ∷ os) =
    cond_both (not (is_object k o)) (o ∷ keep (λ (o : Object). not (is_object k o)) os) (keep (λ (o : Object). not (is_object k o)) os) (λ ps. objects_weight ps ≤ objects_weight (o ∷ os))
    (λ e. omega (arith, set_object_none k os))
    (λ e. omega (arith, set_object_none k os))

set_object_weighs : (k : Name) (v : Version) (vs : List Version) (os : List Object) → Pairs Before os →
    objects_weight (set_object k (v ∷ vs) os) + versions_weight (versions_of (find (is_object k) os)) ≤ objects_weight os + spare (versions_of (find (is_object k) os)) + versions_weight (v ∷ vs)
unfolding set_object objects_weight versions_weight find versions_of none
set_object_weighs k v vs [] p = omega arith
set_object_weighs k v vs (o ∷ os) p = go (less k o.key) (less o.key k) refl refl (set_object_weighs k v vs os p.1)
  where
    Set : List Object → List Object → List Object → Type 0
    Set after was before = objects_weight after + versions_weight (versions_of was) ≤ objects_weight before + spare (versions_of was) + versions_weight (v ∷ vs)

    here : Object
    here = record { key = k; versions = v ∷ vs }

    go : (a b : Bool) → less k o.key ≡ a → less o.key k ≡ b → Set (set_object k (v ∷ vs) os) (find (is_object k) os) os →
        Set (cond (less k o.key) (here ∷ o ∷ os) (cond (less o.key k) (o ∷ set_object k (v ∷ vs) os) (here ∷ os))) (cond (is_object k o) (o ∷ []) (find (is_object k) os)) (o ∷ os)
    go true b e d below = rw (e, none_after o os k p (inl e)) (omega arith)
    go false true e d below = rw (e, d) (omega arith)
    go false false e d below = rw (e, d) (omega arith)

kept_lighter : (k : Name) (vs : List Version) (os : List Object) → objects_weight (kept k vs os) ≤ 1024 + versions_weight vs + objects_weight os
unfolding kept objects_weight
kept_lighter k [] os = omega arith
kept_lighter k (v ∷ vs) os = omega arith

aged_objects_lighter : (now : ℕ) (r : Room) (os : List Object) → ((o : Object) → Memᴰ o os → (v : Version) → Memᴰ v o.versions → Plain v) →
    objects_weight (aged_objects now r os) ≤ objects_weight os
unfolding aged_objects objects_weight
aged_objects_lighter now r [] p = omega arith
aged_objects_lighter now r (o ∷ os) p =
    let below = aged_objects_lighter now r os (λ q m. p q (Memᴰ.tail m)) in
    omega (arith, below, kept_lighter o.key left (aged_objects now r os), aged_lighter now r.keeps (rule_for o.key r.rules) o.versions (p o (Memᴰ.head refl)))
  where
    left : List Version
    left = aged now r.keeps (rule_for o.key r.rules) o.versions

-- UPLOADS

-- none is not one
none_one : {A : Type 0} {x : A} → [] ≡ x ∷ [] → ⊥
none_one {x = x} e = let z : ◌≡◌ {A = ℕ} 0 1 = cc in omega arith

others_lighter : (u : ℕ) (us : List Upload) → uploads_weight (others u us) ≤ uploads_weight us
unfolding keep uploads_weight
others_lighter u [] = omega arith
others_lighter u (x ∷ us) =
    cond_both (not (is_upload u x)) (x ∷ others u us) (others u us) (λ ys. uploads_weight ys ≤ uploads_weight (x ∷ us)) (λ e. omega (arith, others_lighter u us)) (λ e. omega (arith, others_lighter u us))

-- without the one that was found, its own weight is gone at least
closed_lighter : (u : ℕ) (us : List Upload) (y : Upload) → find (is_upload u) us ≡ y ∷ [] → uploads_weight (others u us) + 1024 + parts_weight y.parts ≤ uploads_weight us
unfolding find keep uploads_weight
closed_lighter u [] y e = absurd (none_one e)
closed_lighter u (x ∷ us) y e = go (is_upload u x) e (closed_lighter u us y)
  where
    go : (b : Bool) → cond b (x ∷ []) (find (is_upload u) us) ≡ y ∷ [] → (find (is_upload u) us ≡ y ∷ [] → uploads_weight (others u us) + 1024 + parts_weight y.parts ≤ uploads_weight us) →
        uploads_weight (cond (not b) (x ∷ others u us) (others u us)) + 1024 + parts_weight y.parts ≤ 1024 + parts_weight x.parts + uploads_weight us
    go true e below = let f : x ≡ y = cc in rw (← f) (omega (arith, others_lighter u us))
    go false e below = omega (arith, below e)

-- ROOMS

abbrev room_weight : Room → ℕ
room_weight r = 32768 + objects_weight r.objects + uploads_weight r.uploads

-- what the weight rests on in a room: keys that rise, and numbers for what has bytes
record Sound (r : Room) : Type 0 where
  pub keys_rise : Pairs Before r.objects
  pub numbered : (o : Object) → Memᴰ o r.objects → (v : Version) → Memᴰ v o.versions → Plain v

plain_at : (r : Room) → Sound r → (k : Name) (v : Version) → Memᴰ v (at' k r) → Plain v
unfolding versions_of
plain_at r p k =
    at_find (is_object k) (λ os. (v : Version) → Memᴰ v (versions_of os) → Plain v) r.objects (λ _ v m. absurd (Memᴰ.not-nil m))
    (λ o e v m. p.numbered o (found (is_object k) r.objects o [] e).there v m)

rooms_changed : (n : Name) (r q : Room) (rs : List Room) → find (is_room n) rs ≡ r ∷ [] → rooms_weight (change (is_room n) (λ _. q) rs) + room_weight r ≡ rooms_weight rs + room_weight q
unfolding find change rooms_weight
rooms_changed n r q [] e = absurd (none_one e)
rooms_changed n r q (x ∷ rs) e = go (is_room n x) e (rooms_changed n r q rs)
  where
    go : (b : Bool) → cond b (x ∷ []) (find (is_room n) rs) ≡ r ∷ [] → (find (is_room n) rs ≡ r ∷ [] → rooms_weight (change (is_room n) (λ _. q) rs) + room_weight r ≡ rooms_weight rs + room_weight q) →
        rooms_weight (cond b (q ∷ rs) (x ∷ change (is_room n) (λ _. q) rs)) + room_weight r ≡ room_weight x + rooms_weight rs + room_weight q
    go true e below = let f : x ≡ r = cc in rw (← f) (omega arith)
    go false e below = omega (arith, below e)

without_lighter : (n : Name) (rs : List Room) → rooms_weight (without n rs) ≤ rooms_weight rs
unfolding keep rooms_weight
without_lighter n [] = omega arith
without_lighter n (x ∷ rs) =
    cond_both (not (is_room n x)) (x ∷ without n rs) (without n rs) (λ ys. rooms_weight ys ≤ rooms_weight (x ∷ rs)) (λ e. omega (arith, without_lighter n rs)) (λ e. omega (arith, without_lighter n rs))

told_lighter : (now : ℕ) (rs : List Room) → ((r : Room) → Memᴰ r rs → Sound r) → rooms_weight (map (aged_room now) rs) ≤ rooms_weight rs
unfolding rooms_weight
told_lighter now [] p = omega arith
told_lighter now (r ∷ rs) p = omega (arith, aged_objects_lighter now r r.objects (p r (Memᴰ.head refl)).numbered, told_lighter now rs (λ q m. p q (Memᴰ.tail m)))

-- CALLS

-- the versions of a thing that is there, by as many or fewer
thinner_set : (r : Room) → Sound r → (k : Name) (ws : List Version) → none (at' k r) ≡ false → versions_weight ws ≤ versions_weight (at' k r) →
    objects_weight (set_object k ws r.objects) ≤ objects_weight r.objects
thinner_set r p k [] e h = set_object_none k r.objects
thinner_set r p k (w ∷ ws) e h = omega (arith, rw e at (set_object_weighs k w ws r.objects p.keys_rise))

-- a new version, joined of an upload's parts, weighs no more than the upload did
complete_lighter : (s : State) (r : Room) → Sound r → (k : Name) (u : ℕ) (y : Upload) → find (is_upload u) r.uploads ≡ y ∷ [] → none y.parts ≡ false →
    objects_weight (set_object k (on_top s.now r.keeps (fresh s (Bytes (joined y.parts))) (at' k r)) r.objects) + uploads_weight (others u r.uploads) ≤ objects_weight r.objects + uploads_weight r.uploads
unfolding bytes_of
complete_lighter s r p k u y d e =
    omega (arith, set_object_weighs k top rest r.objects p.keys_rise, spare_most (none (at' k r)), step_most top rest, rest_lighter, closed_lighter u r.uploads y d, joined_light y.parts e)
  where
    top : Version
    top = fresh s (Bytes (joined y.parts))

    rest : List Version
    rest = cond r.keeps (at' k r) (keep (is_held s.now) (at' k r))

    spare_most : (b : Bool) → cond b 1024 0 ≤ 1024
    spare_most true = omega arith
    spare_most false = omega arith

    rest_lighter : versions_weight rest ≤ versions_weight (at' k r)
    rest_lighter =
        cond_both r.keeps (at' k r) (keep (is_held s.now) (at' k r)) (λ ws. versions_weight ws ≤ versions_weight (at' k r)) (λ _. omega arith)
        (λ _. lighter (keep_thinned (is_held s.now) (at' k r)) (plain_at r p k))

some_there : {A : Type 0} (f : A → Bool) (xs : List A) (x : A) → find f xs ≡ x ∷ [] → none xs ≡ false
unfolding find none
some_there f [] x e = absurd (none_one e)
some_there f (y ∷ xs) x e = refl

sets_grows : {s : State} {n : Name} {r : Room} {k : Name} {c : Call} {reply : Reply} {next : ℕ} {us : List Upload} {vs : List Version} → Sets s n r k c reply next us vs → Sound r →
    (objects_weight (set_object k vs r.objects) + uploads_weight us ≤ objects_weight r.objects + uploads_weight r.uploads) ⊎ Grows c
sets_grows {n = n} {k = k} (new b (by_put bs x a l h) few) p = inr (putting n k bs x)
sets_grows {n = n} {k = k} (new b (by_remove there) few) p = inr (removing_the_latest n k)
sets_grows {s = s} {r = r} {k = k} (new b (by_complete u x y d some e) few) p = inl (complete_lighter s r p k u y d some)
sets_grows {n = n} {k = k} (gone a b) p = inr (removing_the_latest n k)
sets_grows {r = r} {k = k} (fewer num v z d h) p =
    inl (omega (arith, thinner_set r p k (keep others_than (at' k r)) (some_there (is_num num) (at' k r) v d) (lighter (keep_thinned others_than (at' k r)) (plain_at r p k))))
  where
    others_than : Version → Bool
    others_than w = not (is_num v.num w)
sets_grows {r = r} {k = k} (longer num until v ok d h) p =
    inl (omega (arith, thinner_set r p k (change (is_num num) (hold_to until) (at' k r)) (some_there (is_num num) (at' k r) v d) (omega (arith, held_weighs num until (at' k r)))))

within_grows : {s : State} {n : Name} {r : Room} {c : Call} {reply : Reply} {next : ℕ} {q : Room} → Within s n r c reply next q → Sound r → (room_weight q ≤ room_weight r) ⊎ Grows c
within_grows (sets k w) p = elim (sets_grows w p) [ inl h ↦ inl (omega arith) | inr g ↦ inr g ]
within_grows {n = n} (begun k ok few) p = inr (beginning n k)
within_grows {n = n} (parted u place bs a b l h) p = inr (putting_a_part n u place bs)
within_grows {r = r} (aborted u) p = inl (omega (arith, others_lighter u r.uploads))
within_grows (ruled rs few ok) p = inl (omega arith)

-- where every room is sound, only these make the weight grow
step_grows : {s : State} {c : Call} {o : Out} → Step s c o → ((r : Room) → Memᴰ r s.rooms → Sound r) → weight s < weight o.state → Grows c
step_grows (stands r h) p l = absurd (omega arith)
step_grows (made n k a b few) p l = making n k
step_grows {s = s} (dropped n r d h) p l = absurd (omega (arith, without_lighter n s.rooms))
step_grows {s = s} (told t h) p l = absurd (omega (arith, told_lighter (later t s.now) s.rooms p))
step_grows {s = s} {c = c} (within n r q d left w) p l =
    elim (within_grows w (p r (found (is_room n) s.rooms r [] d).there)) [ inl h ↦ absurd (omega (arith, rooms_changed n r q s.rooms d)) | inr g ↦ g ]

-- THE LAWS

sound : (s : State) → Good s → (r : Room) → Memᴰ r s.rooms → Sound r
sound s g r m = record { keys_rise = (g.rooms_good r m).keys_rise; numbered = λ o i v j. (((g.fits.rooms_fit r m).objects_fit o i).each_fits v j).numbered }

pub weight_grows : WeightGrows
weight_grows s c run l = step_grows (steps c s) (sound s (good run)) l

full_grows : (can : Call → Bool) (size : ℕ) {c : Call} {s t : State} {r : Reply} → Answers can size c s r t → Run blank s → r ≡ Full → Grows c
full_grows can size (says_so c s built) run e = absurd (never_full c s e)
full_grows can size (not_yet c s unbuilt) run e = absurd (let z : ◌≡◌ {A = ℕ} 0 1 = cc in omega arith)
full_grows can size (too_full c s built more over) run e = weight_grows s c run more

pub full_only : FullOnly
full_only can size s t c r run a e = full_grows can size a run e
