-- Where an upload comes from: by its number, one that was in the room before a call, or one that the call began.
-- Assumes nothing.
use Rattle.std.proofs.Common.{◌≡◌, ℕ, not, ◌⊎◌, List, [], ◌∷◌, sym, refl, ◌∙◌, inl, inr}
use mathlib.Core.List.Memᴰ
use mathlib.Core.List.{Memᴰ}
use Rattle.meaning.specs.Lists.{Name, find}
use Rattle.meaning.specs.Rooms.{Body, Version, Upload, Room, State, Call, Reply, Out}
use Rattle.meaning.specs.Does.{is_room, is_upload, aged_room, later}
use Rattle.meaning.specs.Laws.{versions_in}
use Rattle.meaning.proofs.Names.{same_eq}
use Rattle.meaning.proofs.Finds.{Changed, Found, found, kept_was, changed_was}
use Rattle.meaning.proofs.Steps.{with_part, Writes, by_put, by_remove, by_complete, Sets, new, gone, fewer, longer, Within, sets, begun, parted, aborted, ruled, within_named, Step, stands, made, dropped, told, within}
use Rattle.meaning.proofs.Moves.{replaced, replaced_same}

-- room: the one room in which an upload may begin; where one does, no version moves
pub data UploadOrigin (s t : State) (room : Name) (q : Room) (u : Upload) : Type 0 where
  was_there : (r : Room) (w : Upload) → Memᴰ r s.rooms → Memᴰ w r.uploads → r.name ≡ q.name → u.num ≡ w.num → UploadOrigin s t room q u
  began : q.name ≡ room → u.num ≡ s.next → ((n k : Name) → versions_in n k t ≡ versions_in n k s) → UploadOrigin s t room q u

pub record UploadSpot (s t : State) : Type 0 where
  pub room : Name
  pub from : (q : Room) (u : Upload) → Memᴰ q t.rooms → Memᴰ u q.uploads → UploadOrigin s t room q u

writes_uploads : (n : Name) (r : Room) (k : Name) {c : Call} {us : List Upload} {b : Body} → Writes n r k c us b → (u : Upload) → Memᴰ u us → Memᴰ u r.uploads
writes_uploads n r k (by_put bs x name l ok) u m = m
writes_uploads n r k (by_remove e) u m = m
writes_uploads n r k (by_complete num x y e some d) u m = (kept_was (λ (y : Upload). not (is_upload num y)) r.uploads u m).there

sets_uploads : (s : State) (n : Name) (r : Room) (k : Name) {c : Call} {reply : Reply} {next : ℕ} {us : List Upload} {vs : List Version} →
    Sets s n r k c reply next us vs → (u : Upload) → Memᴰ u us → Memᴰ u r.uploads
sets_uploads s n r k (new b w l) u m = writes_uploads n r k w u m
sets_uploads s n r k (gone a b) u m = m
sets_uploads s n r k (fewer num v z e f) u m = m
sets_uploads s n r k (longer num until v t e f) u m = m

-- of the uploads of a room that was changed
abbrev From : State → Room → Room → Upload → Type 0
From s r q u = ((w : Upload) × Memᴰ w r.uploads × (u.num ≡ w.num)) ⊎ ((u.num ≡ s.next) × (q.objects ≡ r.objects))

within_uploads : (s : State) (n : Name) (r : Room) {c : Call} {reply : Reply} {next : ℕ} {q : Room} → Within s n r c reply next q → (u : Upload) → Memᴰ u q.uploads → From s r q u
within_uploads s n r (sets k h) u m = inl (u, sets_uploads s n r k h u m, refl)
within_uploads s n r (begun k name few) u m = go (Memᴰ.append_cases r.uploads m)
  where
    go : Memᴰ u r.uploads ⊎ Memᴰ u (record { num = s.next; key = k; parts = [] } ∷ []) → From s r r u
    go (inl m) = inl (u, m, refl)
    go (inr m) = inr (rw (Memᴰ.eq_of_singleton m) refl, refl)
within_uploads s n r (parted num p bs a b l ok) u m = go (changed_was (is_upload num) (with_part p bs) r.uploads u m)
  where
    go : Changed (is_upload num) (with_part p bs) r.uploads u → From s r r u
    go (inl t) = inl (t.0, t.2.there, rw t.1 refl)
    go (inr m) = inl (u, m, refl)
within_uploads s n r (aborted num) u m = inl (u, (kept_was (λ (y : Upload). not (is_upload num y)) r.uploads u m).there, refl)
within_uploads s n r (ruled rs few fit) u m = inl (u, m, refl)

-- a room that was there, and had it
kept_upload : {s t : State} {room : Name} (q : Room) (u : Upload) → Memᴰ q s.rooms → Memᴰ u q.uploads → UploadOrigin s t room q u
kept_upload q u m i = was_there q u m i refl refl

within_from : (s : State) (n : Name) (r q : Room) (next : ℕ) {c : Call} {reply : Reply} → find (is_room n) s.rooms ≡ r ∷ [] → Within s n r c reply next q →
    UploadSpot s (replaced s next n q)
within_from s n r q next e w = record { room = n; from = λ x u m i. each x u i (changed_was (is_room n) (λ _. q) s.rooms x m) }
  where
    t : State
    t = replaced s next n q

    there : Found (is_room n) s.rooms r
    there = found (is_room n) s.rooms r [] e

    named : q.name ≡ r.name
    named = within_named s n r w

    changed : (u : Upload) → From s r q u → UploadOrigin s t n q u
    changed u (inl x) = was_there r x.0 there.there x.1 (sym named) x.2
    changed u (inr x) = began (named ∙ sym (same_eq n r.name there.passes)) x.0 (replaced_same s n r q e named next x.1)

    each : (x : Room) (u : Upload) → Memᴰ u x.uploads → Changed (is_room n) (λ _. q) s.rooms x → UploadOrigin s t n x u
    each x u i (inl y) = rw y.1 (changed u (within_uploads s n r w u (rw y.1 at i)))
    each x u i (inr m) = kept_upload x u m i

pub uploads_from : (s : State) {c : Call} {o : Out} → Step s c o → UploadSpot s o.state
uploads_from s (stands reply silent) = record { room = []; from = kept_upload }
uploads_from s (made n keeps name free few) = record { room = []; from = λ q u m i. elim (Memᴰ.append_cases s.rooms m) [ inl j ↦ kept_upload q u j i | inr j ↦ absurd (Memᴰ.not-nil (rw (Memᴰ.eq_of_singleton j) at i)) ] }
uploads_from s (dropped n r e none) = record { room = []; from = λ q u m i. kept_upload q u (kept_was (λ (x : Room). not (is_room n x)) s.rooms q m).there i }
uploads_from s (told t p) = record { room = []; from = λ q u m i. let (x, there, e) = Memᴰ.of_map (aged_room (later t s.now)) s.rooms m in rw (← e) (was_there x u there (rw (← e) at i) refl refl) }
uploads_from s (within n r q e left w) = within_from s n r q _ e w
