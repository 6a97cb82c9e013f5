-- `good`: the invariant holds of every state that calls lead to, so nothing outgrows its bound.
-- Assumes nothing.
use Rattle.std.proofs.Common.{◌≡◌, ℕ, ◌+◌, ◌<◌, ◌≤◌, Bool, false, not, T, ltb, List, [], ◌∷◌, ◌++◌, length, sym, refl, ◌∙◌, subst, inl, inr, arith, length-append}
use mathlib.Core.List.Memᴰ
use mathlib.Core.List.{Memᴰ}
use lib.ListN.{length-map}
use Rattle.std.proofs.lemmas.Bool.{cond_both, ltb-true, true≢false, false≢true}
use Rattle.meaning.specs.Lists.{Name, some, every, find, change, none}
use Rattle.meaning.specs.Rooms.{Body, Bytes, Removed, Version, Object, Upload, Room, State, blank, Call, Reply, Out}
use Rattle.meaning.specs.Does.{does, is_room, is_object, is_num, versions_of, at', set_object, with_objects, with_uploads, current, joined, is_upload, rule_for, aged_room, aged_objects, later, ticked, small, name_ok, rule_ok, bytes}
use Rattle.meaning.specs.Laws.{Run, still, onward, fell, versions_in, keeps_of, VersionFits, UploadFits, RoomFits, StaysInBounds}
use Rattle.meaning.proofs.Good.{Pairs, Apart, Before, RoomGood, Once, UploadsOnce, Good}
use Rattle.meaning.proofs.Names.{same_eq, same_from}
use Rattle.meaning.proofs.Finds.{Changed, FoundOrNone, found, found_or_none, kept_was, keep_pairs, keep_length, changed_was, change_pairs, change_length, pairs_pushed, mapped_pairs, not_some}
use Rattle.meaning.proofs.Objects.{SetOrWas, set_was, set_pairs, aged_was, aged_pairs}
use Rattle.meaning.proofs.Steps.{fresh, Writes, by_put, by_remove, by_complete, Sets, new, gone, fewer, longer, Within, sets, begun, parted, aborted, ruled, Step, stands, made, dropped, told, within, within_named, empty_room, without, steps}
use Rattle.meaning.proofs.Heaps.{Heap, heap_none, heap_later, heap_keep, heap_longer, heap_on_top, heap_aged}
use Rattle.meaning.proofs.Uploads.{Ups, ups_later, ups_others, ups_begun, ups_parted, joined_bytes, joined_length}
use Rattle.meaning.proofs.Began.{UploadOrigin, was_there, began, UploadSpot, uploads_from}
use Rattle.meaning.proofs.Moves.{Spot, moves, Origin, was, came, marks, origin}

-- THE SAME BY PARTS: what fits and what is in order, together for each object and each room

pub record ObjectOk (now next : ℕ) (keeps : Bool) (o : Object) : Type 0 where
  pub key_fits : T (name_ok o.key)
  pub some_version : 1 ≤ length o.versions
  pub heap : Heap now next keeps o.versions

pub record RoomOk (now next : ℕ) (r : Room) : Type 0 where
  pub name_fits : T (name_ok r.name)
  pub few_rules : length r.rules ≤ 64
  pub rules_fit : T (every rule_ok r.rules)
  pub uploads_ok : Ups next r.uploads
  pub keys_rise : Pairs Before r.objects
  pub objects_ok : (o : Object) → Memᴰ o r.objects → ObjectOk now next r.keeps o

room_ok : {now next : ℕ} {r : Room} → RoomFits now next r → RoomGood r → RoomOk now next r
room_ok f g =
    record {
      name_fits = f.name_fits;
      few_rules = f.few_rules;
      rules_fit = f.rules_fit;
      uploads_ok = record { few = f.few_uploads; each_fits = f.uploads_fit; rise = g.uploads_rise; parts_rise = g.parts_rise };
      keys_rise = g.keys_rise;
      objects_ok = λ o m. let h = f.objects_fit o m in record { key_fits = h.key_fits; some_version = h.some_version; heap = record { few = h.few; rules_mark = h.rules_mark; each_fits = h.each_fits; stacked = g.stacked o m } };
    }

room_fits : {now next : ℕ} {r : Room} → RoomOk now next r → RoomFits now next r
room_fits k =
    record {
      name_fits = k.name_fits;
      few_rules = k.few_rules;
      rules_fit = k.rules_fit;
      few_uploads = k.uploads_ok.few;
      uploads_fit = k.uploads_ok.each_fits;
      objects_fit = λ o m. let h = k.objects_ok o m in record { key_fits = h.key_fits; some_version = h.some_version; few = h.heap.few; rules_mark = h.heap.rules_mark; each_fits = h.heap.each_fits };
    }

room_good : {now next : ℕ} {r : Room} → RoomOk now next r → RoomGood r
room_good k = record { keys_rise = k.keys_rise; stacked = λ o m. (k.objects_ok o m).heap.stacked; uploads_rise = k.uploads_ok.rise; parts_rise = k.uploads_ok.parts_rise }

object_later : {now next now' next' : ℕ} {keeps : Bool} {o : Object} → now ≤ now' → next ≤ next' → ObjectOk now next keeps o → ObjectOk now' next' keeps o
object_later p q h = record { key_fits = h.key_fits; some_version = h.some_version; heap = heap_later p q h.heap }

room_later : {now next now' next' : ℕ} {r : Room} → now ≤ now' → next ≤ next' → RoomOk now next r → RoomOk now' next' r
room_later p q k =
    record { name_fits = k.name_fits; few_rules = k.few_rules; rules_fit = k.rules_fit; uploads_ok = ups_later q k.uploads_ok; keys_rise = k.keys_rise; objects_ok = λ o m. object_later p q (k.objects_ok o m) }

-- what stands under a key is in order, and where something stands the key is a name
module _ {now next : ℕ} (r : Room) (ok : RoomOk now next r) (k : Name) where
  pub heap_at : Heap now next r.keeps (at' k r)
  unfolding versions_of
  heap_at = go (found_or_none (is_object k) r.objects)
    where
      go : FoundOrNone (is_object k) r.objects → Heap now next r.keeps (at' k r)
      go (inl e) = rw e (heap_none now next r.keeps)
      go (inr h) = rw h.1 (ok.objects_ok h.0 (found (is_object k) r.objects h.0 [] h.1).there).heap

  key_at : (v : Version) → Memᴰ v (at' k r) → T (name_ok k)
  unfolding versions_of
  key_at v m = go (found_or_none (is_object k) r.objects)
    where
      go : FoundOrNone (is_object k) r.objects → T (name_ok k)
      go (inl e) = absurd (Memᴰ.not-nil (rw e at m))
      go (inr h) = let f = found (is_object k) r.objects h.0 [] h.1 in rw (same_eq k h.0.key f.passes) (ok.objects_ok h.0 f.there).key_fits

-- ONE ROOM

longer_than_none : {A : Type 0} (xs : List A) (x : A) (ys : List A) → xs ≡ x ∷ ys → 1 ≤ length xs
longer_than_none xs x ys e = rw e (omega arith)

set_ok : {now next next' : ℕ} (r : Room) (k : Name) (vs : List Version) (us : List Upload) → next ≤ next' → RoomOk now next r → Heap now next' r.keeps vs →
    ((v : Version) (ws : List Version) → vs ≡ v ∷ ws → T (name_ok k)) → Ups next' us → RoomOk now next' (with_uploads us (with_objects (set_object k vs r.objects) r))
set_ok {now} {next} {next'} r k vs us p ok h name ups =
    record {
      name_fits = ok.name_fits;
      few_rules = ok.few_rules;
      rules_fit = ok.rules_fit;
      uploads_ok = ups;
      keys_rise = set_pairs k vs r.objects ok.keys_rise;
      objects_ok = λ o m. each o (set_was k vs r.objects o m);
    }
  where
    each : (o : Object) → SetOrWas k vs r.objects o → ObjectOk now next' r.keeps o
    each o (inl t) = rw t.0 (record { key_fits = name t.1.0 t.1.1 t.1.2; some_version = longer_than_none vs t.1.0 t.1.1 t.1.2; heap = h })
    each o (inr m) = object_later (omega arith) p (ok.objects_ok o m)

uploads_ok_with : {now next next' : ℕ} (r : Room) (us : List Upload) → next ≤ next' → RoomOk now next r → Ups next' us → RoomOk now next' (with_uploads us r)
uploads_ok_with r us p ok ups =
    record { name_fits = ok.name_fits; few_rules = ok.few_rules; rules_fit = ok.rules_fit; uploads_ok = ups; keys_rise = ok.keys_rise; objects_ok = λ o m. object_later (omega arith) p (ok.objects_ok o m) }

current_there : (vs : List Version) → none (current vs) ≡ false → (v : Version) × Memᴰ v vs
unfolding none current
current_there [] e = absurd (true≢false e)
current_there (v ∷ vs) e = (v, Memᴰ.head refl)

-- what a call writes fits, and so do its key and the uploads that are left
pub record Written (s : State) (k : Name) (us : List Upload) (b : Body) : Type 0 where
  pub key_fits : T (name_ok k)
  pub body_fits : VersionFits s.now (s.next + 1) (fresh s b)
  pub uploads_ok : Ups (s.next + 1) us

fresh_fits : (s : State) (b : Body) → 1 ≤ s.next → ((bs : List ℕ) → b ≡ Bytes bs → T (bytes bs) × (length bs ≤ 52428800000)) → VersionFits s.now (s.next + 1) (fresh s b)
fresh_fits s b p f = record { num_below = omega arith; numbered = λ bs e. p; came = omega arith; hold_small = tt; mark_not_held = λ _. refl; of_bytes = f }

written : (s : State) (n : Name) (r : Room) (k : Name) {c : Call} {us : List Upload} {b : Body} → 1 ≤ s.next → RoomOk s.now s.next r → Writes n r k c us b → Written s k us b
written s n r k p ok (by_put bs x name l bytes) = record { key_fits = name; body_fits = fresh_fits s (Bytes bs) p (λ cs e. let d : cs ≡ bs = cc in rw d (bytes, omega arith)); uploads_ok = ups_later (omega arith) ok.uploads_ok }
written s n r k p ok (by_remove e) =
    let (v, m) = current_there (at' k r) e in
    record { key_fits = key_at r ok k v m; body_fits = fresh_fits s Removed p (λ cs e. absurd (let z : ◌≡◌ {A = ℕ} 0 1 = cc in omega arith)); uploads_ok = ups_later (omega arith) ok.uploads_ok }
written s n r k p ok (by_complete u x y e some d) =
    let f : UploadFits s.next y = ok.uploads_ok.each_fits y (found (is_upload u) r.uploads y [] e).there in
    record {
      key_fits = rw (← d) f.key_fits;
      body_fits = fresh_fits s (Bytes (joined y.parts)) p (λ cs e. let d : cs ≡ joined y.parts = cc in rw d (joined_bytes y.parts f.each_fits, omega (arith, joined_length y.parts f.each_fits, f.few)));
      uploads_ok = ups_later (omega arith) (ups_others u r.uploads ok.uploads_ok);
    }

-- the room that a call leaves, and the next number: no less, and at most one more
pub record RoomStep (s : State) (next : ℕ) (q : Room) : Type 0 where
  pub no_less : s.next ≤ next
  pub one_more : next ≤ s.next + 1
  pub ok : RoomOk s.now next q

counting : {s : State} {q : Room} → RoomOk s.now (s.next + 1) q → RoomStep s (s.next + 1) q
counting ok = record { no_less = omega arith; one_more = omega arith; ok = ok }

uncounting : {s : State} {q : Room} → RoomOk s.now s.next q → RoomStep s s.next q
uncounting ok = record { no_less = omega arith; one_more = omega arith; ok = ok }

sets_ok : (s : State) (n : Name) (r : Room) (k : Name) {c : Call} {reply : Reply} {next : ℕ} {us : List Upload} {vs : List Version} → 1 ≤ s.next →
    RoomOk s.now s.next r → Sets s n r k c reply next us vs → RoomStep s next (with_uploads us (with_objects (set_object k vs r.objects) r))
sets_ok s n r k {us = us} p ok (new b w l) =
    let h = written s n r k p ok w in
    let heap = heap_on_top r.keeps (fresh s b) (at' k r) h.body_fits refl refl l (heap_at r ok k) in
    counting {s = s} (set_ok r k _ us (omega arith) ok heap (λ _ _ _. h.key_fits) h.uploads_ok)
sets_ok s n r k p ok (gone a b) = uncounting {s = s} (set_ok r k [] r.uploads (omega arith) ok (heap_none _ _ _) (λ v ws e. absurd (let z : ◌≡◌ {A = ℕ} 0 1 = cc in omega arith)) ok.uploads_ok)
sets_ok s n r k p ok (fewer num v z e f) =
    let key = key_at r ok k v (found (is_num num) (at' k r) v [] e).there in
    uncounting {s = s} (set_ok r k _ r.uploads (omega arith) ok (heap_keep _ (at' k r) (heap_at r ok k)) (λ _ _ _. key) ok.uploads_ok)
sets_ok s n r k p ok (longer num until v t e f) =
    let key = key_at r ok k v (found (is_num num) (at' k r) v [] e).there in
    uncounting {s = s} (set_ok r k _ r.uploads (omega arith) ok (heap_longer num until v (at' k r) t e f (heap_at r ok k)) (λ _ _ _. key) ok.uploads_ok)

within_ok : (s : State) (n : Name) (r : Room) {c : Call} {reply : Reply} {next : ℕ} {q : Room} → 1 ≤ s.next → RoomOk s.now s.next r → Within s n r c reply next q → RoomStep s next q
within_ok s n r p ok (sets k h) = sets_ok s n r k p ok h
within_ok s n r p ok (begun k name l) = counting {s = s} (uploads_ok_with r _ (omega arith) ok (ups_begun k r.uploads p name l ok.uploads_ok))
within_ok s n r p ok (parted u i bs a b l bytes) = uncounting {s = s} (uploads_ok_with r _ (omega arith) ok (ups_parted u i bs r.uploads a b l bytes ok.uploads_ok))
within_ok s n r p ok (aborted u) = uncounting {s = s} (uploads_ok_with r _ (omega arith) ok (ups_others u r.uploads ok.uploads_ok))
within_ok s n r p ok (ruled rs few fit) = uncounting {s = s} (record { name_fits = ok.name_fits; few_rules = few; rules_fit = fit; uploads_ok = ok.uploads_ok; keys_rise = ok.keys_rise; objects_ok = ok.objects_ok })

aged_ok : {now now' next : ℕ} (r : Room) → now ≤ now' → 1 ≤ next → RoomOk now next r → RoomOk now' next (aged_room now' r)
aged_ok {now} {now'} {next} r p one ok =
    record {
      name_fits = ok.name_fits;
      few_rules = ok.few_rules;
      rules_fit = ok.rules_fit;
      uploads_ok = ok.uploads_ok;
      keys_rise = aged_pairs now' r r.objects ok.keys_rise;
      objects_ok = each;
    }
  where
    each : (o : Object) → Memᴰ o (aged_objects now' r r.objects) → ObjectOk now' next r.keeps o
    each o m =
        let (o₀, there, key, left, (v, vs, e)) = aged_was now' r r.objects o m in
        let h = ok.objects_ok o₀ there in
        record {
          key_fits = rw key h.key_fits;
          some_version = longer_than_none o.versions v vs e;
          heap = rw left (heap_aged r.keeps (rule_for o₀.key r.rules) o₀.versions one (heap_later p (omega arith) h.heap));
        }

-- THE HOUSE

pub record House (s : State) : Type 0 where
  pub few_rooms : length s.rooms ≤ 256
  pub now_small : T (small s.now)
  pub next_from_one : 1 ≤ s.next
  pub next_bounded : s.next ≤ 4611686018427387904
  pub rooms_apart : Pairs Apart s.rooms
  pub rooms_ok : (r : Room) → Memᴰ r s.rooms → RoomOk s.now s.next r

pub house : {s : State} → Good s → House s
house g =
    record {
      few_rooms = g.fits.few_rooms;
      now_small = g.fits.now_small;
      next_from_one = g.fits.next_from_one;
      next_bounded = g.fits.next_bounded;
      rooms_apart = g.rooms_apart;
      rooms_ok = λ r m. room_ok (g.fits.rooms_fit r m) (g.rooms_good r m);
    }

good_house : {s : State} → House s → Once s → UploadsOnce s → Good s
good_house h o u =
    record {
      fits = record { few_rooms = h.few_rooms; now_small = h.now_small; next_from_one = h.next_from_one; next_bounded = h.next_bounded; rooms_fit = λ r m. room_fits (h.rooms_ok r m) };
      rooms_apart = h.rooms_apart;
      rooms_good = λ r m. room_good (h.rooms_ok r m);
      once = o;
      uploads_once = u;
    }

pub later_now : (t now : ℕ) → now ≤ later t now
later_now t now = cond_both (ltb now t) t now (λ x. now ≤ x) (λ e. omega (arith, ltb-true now t e)) (λ _. omega arith)

later_small : (t now : ℕ) → T (small t) → T (small now) → T (small (later t now))
later_small t now p q = cond_both (ltb now t) t now (λ x. T (small x)) (λ _. p) (λ _. q)

made_house : (s : State) (n : Name) (keeps : Bool) → T (name_ok n) → some (is_room n) s.rooms ≡ false → length s.rooms < 256 → House s →
    House (record { now = s.now; next = s.next; rooms = s.rooms ++ (empty_room n keeps ∷ []) })
unfolding every
made_house s n keeps name free few h =
    record {
      few_rooms = omega (arith, length-append s.rooms (empty_room n keeps ∷ []));
      now_small = h.now_small;
      next_from_one = h.next_from_one;
      next_bounded = h.next_bounded;
      rooms_apart = pairs_pushed Apart (empty_room n keeps) s.rooms h.rooms_apart (λ r m e. false≢true (sym (not_some (is_room n) s.rooms free r m) ∙ same_from n r.name (sym e)));
      rooms_ok = λ r m. elim (Memᴰ.append_cases s.rooms m) [ inl i ↦ h.rooms_ok r i | inr i ↦ rw (Memᴰ.eq_of_singleton i) empty ];
    }
  where
    empty : RoomOk s.now s.next (empty_room n keeps)
    empty =
        record {
          name_fits = name;
          few_rules = omega arith;
          rules_fit = tt;
          uploads_ok = record { few = omega arith; each_fits = λ u m. absurd (Memᴰ.not-nil m); rise = tt; parts_rise = λ u m. absurd (Memᴰ.not-nil m) };
          keys_rise = tt;
          objects_ok = λ o m. absurd (Memᴰ.not-nil m);
        }

dropped_house : (s : State) (n : Name) → House s → House (record { now = s.now; next = s.next; rooms = without n s.rooms })
dropped_house s n h =
    let other : Room → Bool = λ (x : Room). not (is_room n x) in
    record {
      few_rooms = omega (arith, keep_length other s.rooms, h.few_rooms);
      now_small = h.now_small;
      next_from_one = h.next_from_one;
      next_bounded = h.next_bounded;
      rooms_apart = keep_pairs other Apart s.rooms h.rooms_apart;
      rooms_ok = λ r m. h.rooms_ok r (kept_was other s.rooms r m).there;
    }

told_house : (s : State) (t : ℕ) → T (small t) → House s → House (ticked (later t s.now) s)
told_house s t p h =
    record {
      few_rooms = omega (arith, length-map s.rooms (aged_room (later t s.now)), h.few_rooms);
      now_small = later_small t s.now p h.now_small;
      next_from_one = h.next_from_one;
      next_bounded = h.next_bounded;
      rooms_apart = mapped_pairs (aged_room (later t s.now)) Apart (λ x y d. d) s.rooms h.rooms_apart;
      rooms_ok = λ r m. let (x, there, e) = Memᴰ.of_map (aged_room (later t s.now)) s.rooms m in rw (← e) (aged_ok x (later_now t s.now) h.next_from_one (h.rooms_ok x there));
    }

within_house : (s : State) (n : Name) (r q : Room) (next : ℕ) → find (is_room n) s.rooms ≡ r ∷ [] → s.next < 4611686018427387904 → House s → q.name ≡ r.name →
    RoomStep s next q → House (record { now = s.now; next = next; rooms = change (is_room n) (λ _. q) s.rooms })
within_house s n r q next e left h named w =
    record {
      few_rooms = omega (arith, change_length (is_room n) (λ _. q) s.rooms, h.few_rooms);
      now_small = h.now_small;
      next_from_one = omega (arith, w.no_less, h.next_from_one);
      next_bounded = omega (arith, w.one_more);
      rooms_apart = change_pairs (is_room n) (λ _. q) Apart (λ x y i d o. d (sym (same_eq n x.name i) ∙ same_q ∙ o)) (λ x y i d o. d (o ∙ sym same_q ∙ same_eq n y.name i)) s.rooms h.rooms_apart;
      rooms_ok = λ x m. each x (changed_was (is_room n) (λ _. q) s.rooms x m);
    }
  where
    same_q : n ≡ q.name
    same_q = same_eq n r.name (found (is_room n) s.rooms r [] e).passes ∙ sym named

    each : (x : Room) → Changed (is_room n) (λ _. q) s.rooms x → RoomOk s.now next x
    each x (inl t) = rw t.1 w.ok
    each x (inr m) = room_later (omega arith) w.no_less (h.rooms_ok x m)

house_step : (s : State) {c : Call} {o : Out} → House s → Step s c o → House o.state
house_step s h (stands reply i) = h
house_step s h (made n keeps name free few) = made_house s n keeps name free few h
house_step s h (dropped n r e none) = dropped_house s n h
house_step s h (told t p) = told_house s t p h
house_step s h (within n r q e left w) = within_house s n r q _ e left h (within_named s n r w) (within_ok s n r h.next_from_one (h.rooms_ok r (found (is_room n) s.rooms r [] e).there) w)

-- NUMBERS

-- the versions of any key of any room are in order
pub heap_in : (s : State) → Good s → (n k : Name) → Heap s.now s.next (keeps_of n s) (versions_in n k s)
heap_in s g n k = go (found_or_none (is_room n) s.rooms)
  where
    go : FoundOrNone (is_room n) s.rooms → Heap s.now s.next (keeps_of n s) (versions_in n k s)
    go (inl e) = rw e (heap_none s.now s.next false)
    go (inr h) = rw h.1 (heap_at h.0 ((house g).rooms_ok h.0 (found (is_room n) s.rooms h.0 [] h.1).there) k)

once_step : (s : State) {c : Call} {o : Out} → Good s → Spot s c o → Once o.state
once_step s g spot n m k l v w i j one e = go (origin s _ _ n k (spot.moves n k) v i) (origin s _ _ m l (spot.moves m l) w j)
  where
    below : (n k : Name) (v : Version) → Memᴰ v (versions_in n k s) → v.num < s.next
    below n k v i = ((heap_in s g n k).each_fits v i).num_below

    go : Origin s spot.room spot.key n k v → Origin s spot.room spot.key m l w → (n ≡ m) × (k ≡ l)
    go (was v₀ i p) (was w₀ j q) = g.once n m k l v₀ w₀ i j (omega (arith, p.num)) (omega (arith, p.num, q.num))
    go (was v₀ i p) (came a b d) = absurd (omega (arith, p.num, below n k v₀ i))
    go (was v₀ i p) (marks z) = absurd (omega arith)
    go (came a b d) (was w₀ j q) = absurd (omega (arith, q.num, below m l w₀ j))
    go (came a b d) (came a' b' d') = (a ∙ sym a', b ∙ sym b')
    go (came a b d) (marks z) = absurd (omega arith)
    go (marks z) o = absurd (omega arith)

-- the same of uploads
uploads_step : (s : State) {c : Call} {o : Out} → Good s → Spot s c o → UploadSpot s o.state → UploadsOnce o.state
uploads_step s {c} {o} g spot ups = record { one_room = λ r q u w m n i j e. rooms r q u w e (ups.from r u m i) (ups.from q w n j); no_version = λ r u n k v m i j e. apart r u n k v j e (ups.from r u m i) (origin s _ _ n k (spot.moves n k) v j) }
  where
    fits : (r : Room) (u : Upload) → Memᴰ r s.rooms → Memᴰ u r.uploads → UploadFits s.next u
    fits r u m i = ((house g).rooms_ok r m).uploads_ok.each_fits u i

    rooms : (r q : Room) (u w : Upload) → u.num ≡ w.num → UploadOrigin s o.state ups.room r u → UploadOrigin s o.state ups.room q w → r.name ≡ q.name
    rooms r q u w e (was_there r₀ u₀ m i a b) (was_there q₀ w₀ n j a' b') = sym a ∙ g.uploads_once.one_room r₀ q₀ u₀ w₀ m n i j (sym b ∙ e ∙ b') ∙ a'
    rooms r q u w e (was_there r₀ u₀ m i a b) (began a' b' quiet) = absurd (omega (arith, (fits r₀ u₀ m i).num_below))
    rooms r q u w e (began a b quiet) (was_there q₀ w₀ n j a' b') = absurd (omega (arith, (fits q₀ w₀ n j).num_below))
    rooms r q u w e (began a b quiet) (began a' b' quiet') = a ∙ sym a'

    apart : (r : Room) (u : Upload) (n k : Name) (v : Version) → Memᴰ v (versions_in n k o.state) → u.num ≡ v.num → UploadOrigin s o.state ups.room r u →
        Origin s spot.room spot.key n k v → ⊥
    apart r u n k v j e (was_there r₀ u₀ m i a b) (was v₀ j₀ p) = g.uploads_once.no_version r₀ u₀ n k v₀ m i j₀ (sym b ∙ e ∙ p.num)
    apart r u n k v j e (was_there r₀ u₀ m i a b) (came x y d) = omega (arith, (fits r₀ u₀ m i).num_below)
    apart r u n k v j e (was_there r₀ u₀ m i a b) (marks z) = omega (arith, (fits r₀ u₀ m i).from_one)
    apart r u n k v j e (began a b quiet) origin = omega (arith, ((heap_in s g n k).each_fits v (subst (Memᴰ v) (quiet n k) j)).num_below)

pub good_step : (c : Call) (s : State) → Good s → Good (does c s).state
good_step c s g = let spot = moves s g (steps c s) in good_house (house_step s (house g) (steps c s)) (once_step s g spot) (uploads_step s g spot (uploads_from s (steps c s)))

pub good_run : {s t : State} → Good s → Run s t → Good t
good_run g still = g
good_run g (onward {t = t} c run) = good_step c t (good_run g run)
good_run g (fell run) = good_run g run

good_blank : Good blank
unfolding find
good_blank =
    good_house (record { few_rooms = omega arith; now_small = tt; next_from_one = omega arith; next_bounded = omega arith; rooms_apart = tt; rooms_ok = λ r m. absurd (Memᴰ.not-nil m) })
    (λ n m k l v w i j. absurd (Memᴰ.not-nil i))
    (record { one_room = λ r q u w m. absurd (Memᴰ.not-nil m); no_version = λ r u n k v m. absurd (Memᴰ.not-nil m) })

pub good : {s : State} → Run blank s → Good s
good run = good_run good_blank run

pub stays_in_bounds : StaysInBounds
stays_in_bounds s run = (good run).fits
