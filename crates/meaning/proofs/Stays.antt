-- What is put stays, and what is held stays.
-- Assumes nothing.
use Rattle.std.proofs.Common.{◌≡◌, ℕ, ◌≤◌, Bool, true, false, cond, not, ◌&&◌, T, ◌⊎◌, List, [], ◌∷◌, refl, ◌∙◌, inl, inr, arith, T_not}
use mathlib.Core.List.Memᴰ
use mathlib.Core.List.{Memᴰ}
use Rattle.std.proofs.lemmas.Bool.{both_ways, and_parts, not-true, not_from_false, ltb-true, lt-ltb, eqb-true}
use Rattle.meaning.specs.Lists.{Name, keep, find, change, begins}
use Rattle.meaning.specs.Rooms.{Body, Bytes, Removed, Version, Upload, Rule, Room, State, blank, Call, Remove, Hold, Tick, Reply, Out}
use Rattle.meaning.specs.Does.{does, is_room, is_num, is_held, is_removed, is_upload, at', on_top, due, rule_for, old_kept, tidy, covered, aged, later}
use Rattle.meaning.specs.Laws.{Run, still, onward, fell, VersionFits, versions_in, StillIn, OnTopOf, here, below, DueBy, as_latest, as_older, MayGo, by_number, by_rule, by_newer, by_removing, by_upload, Stays, HeldStays}
use Rattle.meaning.proofs.Good.{Good}
use Rattle.meaning.proofs.Names.{so, is_so}
use Rattle.meaning.proofs.Finds.{FoundOrNone, Found, found, found_or_none, kept_is, changed_is, not_some}
use Rattle.meaning.proofs.Steps.{fresh, hold_to, Writes, by_put, by_remove, by_complete, Sets, new, gone, fewer, longer, Step, stands, made, dropped, told, within, steps}
use Rattle.meaning.proofs.Heaps.{Heap, one_version, mark, higher_left}
use Rattle.meaning.proofs.Moves.{Moves, stay, set, ages, moves, versions_found}
use Rattle.meaning.proofs.Bounds.{heap_in, good, good_run, later_now}

still_itself : (v : Version) (vs : List Version) → Memᴰ v vs → StillIn v vs
still_itself v vs m = record { found = v; there = m; num = refl; body = refl; at = refl; held = omega arith }

bytes_not_removed : (v : Version) (bs : List ℕ) → v.body ≡ Bytes bs → is_removed v.body ≡ false
unfolding is_removed
bytes_not_removed v bs e = rw e refl

-- RULES

-- an older one is due since the one on top of it came, and isn't held
abbrev OldGone : (now l : ℕ) → Version → List Version → Type 0
OldGone now l w vs = (z : Version) × OnTopOf z w vs × T (due now l z.at) × (is_held now w ≡ false)

old_stays : (now l : ℕ) (u : Version) (vs : List Version) (w : Version) → Memᴰ w vs → Memᴰ w (old_kept now l u.at vs) ⊎ OldGone now l w (u ∷ vs)
unfolding old_kept
old_stays now l u [] w m = absurd (Memᴰ.not-nil m)
old_stays now l u (v ∷ vs) w m = go (due now l u.at && not (is_held now v)) refl (old_stays now l v vs w) (Memᴰ.cases_cons m)
  where
    rest : List Version
    rest = old_kept now l v.at vs

    all : List Version
    all = old_kept now l u.at (v ∷ vs)

    deeper : OldGone now l w (v ∷ vs) → OldGone now l w (u ∷ v ∷ vs)
    deeper g = (g.0, below g.1, g.2, g.3)

    behind : (Memᴰ w vs → Memᴰ w rest ⊎ OldGone now l w (v ∷ vs)) → Memᴰ w vs → (Memᴰ w rest → Memᴰ w all) → Memᴰ w all ⊎ OldGone now l w (u ∷ v ∷ vs)
    behind earlier m lift = elim (earlier m) [ inl k ↦ inl (lift k) | inr g ↦ inr (deeper g) ]

    go : (b : Bool) → (due now l u.at && not (is_held now v)) ≡ b → (Memᴰ w vs → Memᴰ w rest ⊎ OldGone now l w (v ∷ vs)) → (w ≡ v) ⊎ Memᴰ w vs →
        Memᴰ w all ⊎ OldGone now l w (u ∷ v ∷ vs)
    go true e earlier (inl d) = let (a, b) = and_parts (due now l u.at) (not (is_held now v)) e in inr (u, rw d here, so a, rw d (not-true (is_held now v) b))
    go true e earlier (inr m) = behind earlier m (λ k. rw e k)
    go false e earlier (inl d) = rw e (inl (Memᴰ.head d))
    go false e earlier (inr m) = behind earlier m (λ k. rw e (Memᴰ.tail k))

-- what has bytes isn't tidied away
tidy_stays : (vs : List Version) (w : Version) → is_removed w.body ≡ false → Memᴰ w vs → Memᴰ w (tidy vs)
unfolding tidy
tidy_stays [] w e m = m
tidy_stays (v ∷ []) w e m = go (is_removed v.body) refl (Memᴰ.cases_cons m)
  where
    go : (b : Bool) → is_removed v.body ≡ b → (w ≡ v) ⊎ Memᴰ w [] → Memᴰ w (cond (is_removed v.body) [] (v ∷ []))
    go true d (inl i) = absurd (both_ways (is_removed v.body) (rw i at e) d)
    go false d (inl i) = rw d (Memᴰ.head i)
    go b d (inr m) = absurd (Memᴰ.not-nil m)
tidy_stays (v ∷ u ∷ vs) w e m = m

-- what a mark covers is there
covered_stays : (now : ℕ) (vs : List Version) (w : Version) → Memᴰ w vs → Memᴰ w (covered now vs)
unfolding covered
covered_stays now [] w m = m
covered_stays now (v ∷ vs) w m = Memᴰ.tail m

aged_stays : (now : ℕ) (keeps : Bool) (x : Rule) (vs : List Version) (w : Version) → is_removed w.body ≡ false → Memᴰ w vs →
    Memᴰ w (aged now keeps (x ∷ []) vs) ⊎ (DueBy now keeps x w vs × (is_held now w ≡ false))
unfolding aged
aged_stays now keeps x [] w bytes m = absurd (Memᴰ.not-nil m)
aged_stays now keeps x (v ∷ vs) w bytes m = at_place (Memᴰ.cases_cons m)
  where
    old : List Version
    old = old_kept now x.old_lasts v.at vs

    goes : Bool
    goes = due now x.lasts v.at && not (is_removed v.body) && not (is_held now v)

    left : Bool → List Version
    left b = cond b (cond keeps (mark now ∷ v ∷ old) (covered now old)) (v ∷ old)

    Fate : Type 0
    Fate = Memᴰ w (tidy (left goes)) ⊎ (DueBy now keeps x w (v ∷ vs) × (is_held now w ≡ false))

    stays : Memᴰ w (left goes) → Fate
    stays m = inl (tidy_stays (left goes) w bytes m)

    older : (b k : Bool) → Memᴰ w old → Memᴰ w (cond b (cond k (mark now ∷ v ∷ old) (covered now old)) (v ∷ old))
    older true true m = Memᴰ.tail (Memᴰ.tail m)
    older true false m = covered_stays now old w m
    older false k m = Memᴰ.tail m

    latest : w ≡ v → (b k : Bool) → goes ≡ b → keeps ≡ k → Memᴰ w (left goes) ⊎ (DueBy now keeps x w (v ∷ vs) × (is_held now w ≡ false))
    latest d true true e f = inl (rw (e, f) (Memᴰ.tail (Memᴰ.head d)))
    latest d true false e f =
        let (a, b) = and_parts (due now x.lasts v.at && not (is_removed v.body)) (not (is_held now v)) e in
        inr (as_latest vs (rw d refl) f (rw d (so (and_parts (due now x.lasts v.at) (not (is_removed v.body)) a).0)), rw d (not-true (is_held now v) b))
    latest d false k e f = inl (rw e (Memᴰ.head d))

    at_place : (w ≡ v) ⊎ Memᴰ w vs → Fate
    at_place (inl d) = elim (latest d goes keeps refl refl) [ inl m ↦ stays m | inr g ↦ inr g ]
    at_place (inr m) = elim (old_stays now x.old_lasts v vs w m) [ inl k ↦ stays (older goes keeps k) | inr g ↦ inr (as_older g.0 g.1 g.2, g.3) ]

-- ONE CALL

-- the new time, at which what goes isn't held
abbrev Fate : State → Name → Name → Version → Call → ℕ → List Version → Type 0
Fate s n k v c now vs = StillIn v vs ⊎ (MayGo s n k v c × T (not (is_held now v)))

abbrev not_held : (now : ℕ) (v : Version) → is_held now v ≡ false → T (not (is_held now v))
not_held now v e = so (not_from_false (is_held now v) e)

module _ (s : State) (n k : Name) (r : Room) (e : find (is_room n) s.rooms ≡ r ∷ []) (v : Version) where
  -- a call that writes may make what isn't held go, where older ones aren't kept
  writes_may : {c : Call} {us : List Upload} {b : Body} → r.keeps ≡ false → Writes n r k c us b → MayGo s n k v c
  writes_may keeps (by_put bs x name l ok) = by_newer bs x (rw e keeps)
  writes_may keeps (by_remove there) = by_removing (rw e keeps)
  writes_may keeps (by_complete u x y d some key) = let f = found (is_upload u) r.uploads y [] d in rw (eqb-true u y.num f.passes) (by_upload x y (rw e f.there) key (rw e keeps))

  top_stays : {c : Call} {us : List Upload} {b : Body} → Writes n r k c us b → Memᴰ v (at' k r) → Fate s n k v c s.now (on_top s.now r.keeps (fresh s b) (at' k r))
  top_stays {c} {us} {b} w m = go r.keeps (is_held s.now v) refl refl
    where
      go : (a h : Bool) → r.keeps ≡ a → is_held s.now v ≡ h → Fate s n k v c s.now (on_top s.now r.keeps (fresh s b) (at' k r))
      go true h i j = inl (still_itself v _ (Memᴰ.tail (rw i m)))
      go false true i j = inl (still_itself v _ (Memᴰ.tail (rw i (kept_is (is_held s.now) (at' k r) v m j))))
      go false false i j = inr (writes_may i w, not_held s.now v j)

  set_stays : {c : Call} {reply : Reply} {next : ℕ} {us : List Upload} {vs : List Version} {now nx : ℕ} {keeps : Bool} → Heap now nx keeps (at' k r) →
      Sets s n r k c reply next us vs → Memᴰ v (at' k r) → Fate s n k v c s.now vs
  set_stays h (new b w l) m = top_stays w m
  set_stays h (gone a b) m = inr (by_removing (rw e a), not_held s.now v (not_some (is_held s.now) (at' k r) b v m))
  set_stays h (fewer num w z d f) m = go (is_num w.num v) refl
    where
      hit : Found (is_num num) (at' k r) w
      hit = found (is_num num) (at' k r) w [] d

      here_num : num ≡ w.num
      here_num = eqb-true num w.num hit.passes

      go : (b : Bool) → is_num w.num v ≡ b → Fate s n k v (Remove n k num) s.now (keep (λ (u : Version). not (is_num w.num u)) (at' k r))
      go true i =
          let same : w ≡ v = one_version (at' k r) h w v hit.there m (omega (arith, here_num, z)) (eqb-true w.num v.num i) in
          inr (rw (here_num ∙ eqb-true w.num v.num i) by_number, not_held s.now v (rw same at f))
      go false i = inl (still_itself v _ (kept_is (λ (u : Version). not (is_num w.num u)) (at' k r) v m (not_from_false (is_num w.num v) i)))
  set_stays h (longer num until w t d f) m = go (changed_is (is_num num) (hold_to until) (at' k r) v m)
    where
      held : List Version
      held = change (is_num num) (hold_to until) (at' k r)

      go : Memᴰ v held ⊎ ((is_num num v ≡ true) × Memᴰ (hold_to until v) held) → Fate s n k v (Hold n k num until) s.now held
      go (inl m) = inl (still_itself v _ m)
      go (inr t) = inl (record { found = hold_to until v; there = t.1; num = refl; body = refl; at = refl; held = higher_left v.held until })

  ages_stays : (t : ℕ) → is_removed v.body ≡ false → Memᴰ v (at' k r) → Fate s n k v (Tick t) (later t s.now) (aged (later t s.now) r.keeps (rule_for k r.rules) (at' k r))
  unfolding aged
  ages_stays t bytes m = go (found_or_none (λ (x : Rule). begins x.prefix k) r.rules)
    where
      now : ℕ
      now = later t s.now

      go : FoundOrNone (λ (x : Rule). begins x.prefix k) r.rules → Fate s n k v (Tick t) now (aged now r.keeps (rule_for k r.rules) (at' k r))
      go (inl d) = rw d (inl (still_itself v _ m))
      go (inr h) = rw h.1 (elim (aged_stays now r.keeps h.0 (at' k r) v bytes m) [ inl i ↦ inl (still_itself v _ i) | inr g ↦ inr (by_rule t r h.0 e h.1 g.0, not_held now v g.1) ])

moves_stays : (s : State) (n k room key : Name) (now : ℕ) {c : Call} {vs : List Version} → Good s → Moves s now room key n k c vs → (v : Version) (bs : List ℕ) →
    Memᴰ v (versions_in n k s) → v.body ≡ Bytes bs → Fate s n k v c now vs
moves_stays s n k room key now g stay v bs m b = inl (still_itself v _ m)
moves_stays s n k room key now {c} {vs} g (set r i _ _ e h) v bs m b = rw i (set_stays s n k r e v (rw (versions_found n k s r e) at (heap_in s g n k)) h (rw (versions_found n k s r e) at m))
moves_stays s n k room key now g (ages t r i e) v bs m b = rw i (ages_stays s n k r e v t (bytes_not_removed v bs b) (rw (versions_found n k s r e) at m))

pub stays : Stays
stays s c run n k v bs m b = let g = good run in let spot = moves s g (steps c s) in moves_stays s n k _ _ _ g (spot.moves n k) v bs m b

-- WHOLE RUNS

pub now_grows : (s : State) {c : Call} {o : Out} → Step s c o → s.now ≤ o.state.now
now_grows s (stands reply silent) = omega arith
now_grows s (made n keeps name free few) = omega arith
now_grows s (dropped n r e none) = omega arith
now_grows s (told t p) = later_now t s.now
now_grows s (within n r q e left w) = omega arith

-- what is held has bytes
held_bytes : {now next : ℕ} (t : ℕ) (v : Version) → T (is_held t v) → VersionFits now next v → (bs : List ℕ) × (v.body ≡ Bytes bs)
held_bytes t v h f = go v.body refl
  where
    go : (b : Body) → v.body ≡ b → (bs : List ℕ) × (v.body ≡ Bytes bs)
    go (Bytes bs) e = (bs, e)
    go Removed e = absurd (omega (arith, f.mark_not_held e, ltb-true t v.held (is_so (is_held t v) h)))

held_since : (t u : ℕ) (v w : Version) → u ≤ t → v.held ≤ w.held → T (is_held t v) → T (is_held u w)
held_since t u v w p q h = so (lt-ltb u w.held (omega (arith, ltb-true t v.held (is_so (is_held t v) h))))

held_later : {s t : State} → Run blank s → Run s t → (n k : Name) (v : Version) → Memᴰ v (versions_in n k s) → T (is_held t.now v) → StillIn v (versions_in n k t)
held_later before still n k v m h = still_itself v _ m
held_later before (onward {t = t} c run) n k v m h = go (held_later before run n k v m (held_since (does c t).state.now t.now v v (now_grows t (steps c t)) (omega arith) h))
  where
    g : Good t
    g = good_run (good before) run

    go : StillIn v (versions_in n k t) → StillIn v (versions_in n k (does c t).state)
    go i =
        let held : T (is_held (does c t).state.now i.found) = held_since (does c t).state.now (does c t).state.now v i.found (omega arith) i.held h in
        let (bs, b) = held_bytes (does c t).state.now i.found held ((heap_in t g n k).each_fits i.found i.there) in
        step held (moves_stays t n k _ _ _ g ((moves t g (steps c t)).moves n k) i.found bs i.there b)
      where
        step : T (is_held (does c t).state.now i.found) → Fate t n k i.found c (does c t).state.now (versions_in n k (does c t).state) → StillIn v (versions_in n k (does c t).state)
        step held (inl j) = record { found = j.found; there = j.there; num = j.num ∙ i.num; body = j.body ∙ i.body; at = j.at ∙ i.at; held = omega (arith, i.held, j.held) }
        step held (inr x) = absurd (T_not (is_held (does c t).state.now i.found) x.1 held)
held_later before (fell run) n k v m h = held_later before run n k v m h

pub held_stays : HeldStays
held_stays s t before run = held_later before run
