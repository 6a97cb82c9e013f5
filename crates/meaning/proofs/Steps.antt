-- What a call may come to: each way in which `does` answers, with what was tested on the way.
-- Assumes nothing.
use Rattle.std.proofs.Common.{◌≡◌, ℕ, ◌+◌, ◌<◌, ◌≤◌, Bool, true, false, cond, not, ◌&&◌, ◌||◌, T, eqb, ltb, leb, List, [], ◌∷◌, ◌++◌, length, refl, inl, inr, arith}
use Rattle.std.proofs.lemmas.Bool.{cond_both, or_parts, and_parts, and_cases, both_ways, not-true, not-false, ltb-true, ltb-false, leb-false, eqb-true, eqb-false, false≢true}
use Rattle.meaning.specs.Lists.{Name, some, every, keep, find, change, none}
use Rattle.meaning.specs.Rooms.{Body, Bytes, Removed, Version, Upload, Rule, Room, State, Expect, Call, MakeRoom, DropRoom, Put, Get, Remove, Look, Versions, Begin, PutPart, Complete, Abort, Hold, SetRules, Tick, Shown, Reply, No, Yes, Num, Got, List', Out}
use Rattle.meaning.specs.Does.{no, is_room, with_rooms, numbered, with_objects, with_uploads, at', set_object, is_removed, current, is_held, on_top, bytes, name_ok, in_room_or, puts, is_num, chosen, gets, removes_one, removes_latest, is_upload, set_part, gapless, joined, parts_put, completes, unless_no, aborts, higher, holds, later, ticked, small, rule_ok, acts, is_tick, does, meets}
use Rattle.meaning.proofs.Names.{so}
use Rattle.meaning.proofs.Finds.{found, at_find, change_as, change_again}

abbrev pub Silent : Reply → Type 0
Silent r = (k : ℕ) → r ≡ Num k → ⊥

-- what a call puts on top
abbrev pub fresh : State → Body → Version
fresh s b = record { num = s.next; body = b; at = s.now; held = 0 }

abbrev pub hold_to : ℕ → Version → Version
hold_to until w = record { num = w.num; body = w.body; at = w.at; held = higher w.held until }

abbrev pub with_part : ℕ → List ℕ → Upload → Upload
with_part p bs y = record { num = y.num; key = y.key; parts = set_part p bs y.parts }

abbrev pub others : ℕ → List Upload → List Upload
others u us = keep (λ (y : Upload). not (is_upload u y)) us

abbrev pub with_rules : List Rule → Room → Room
with_rules rs r = record { name = r.name; keeps = r.keeps; rules = rs; objects = r.objects; uploads = r.uploads }

-- the calls that put a new version on top of a key; the uploads that are left, and the body
pub data Writes (n : Name) (r : Room) (k : Name) : Call → List Upload → Body → Type 0 where
  by_put : (bs : List ℕ) (x : Expect) → T (name_ok k) → length bs ≤ 5242880 → T (bytes bs) → Writes n r k (Put n k bs x) r.uploads (Bytes bs)
  by_remove : none (current (at' k r)) ≡ false → Writes n r k (Remove n k 0) r.uploads Removed
  by_complete : (u : ℕ) (x : Expect) (y : Upload) → find (is_upload u) r.uploads ≡ y ∷ [] → none y.parts ≡ false → y.key ≡ k →
      Writes n r k (Complete n u x) (others u r.uploads) (Bytes (joined y.parts))

-- the calls that set the versions of a key: the reply, the next number, the uploads and the versions that are left
pub data Sets (s : State) (n : Name) (r : Room) (k : Name) : Call → Reply → ℕ → List Upload → List Version → Type 0 where
  new : {c : Call} {us : List Upload} (b : Body) → Writes n r k c us b → length (at' k r) < 1024 →
      Sets s n r k c (Num s.next) (s.next + 1) us (on_top s.now r.keeps (fresh s b) (at' k r))
  gone : r.keeps ≡ false → some (is_held s.now) (at' k r) ≡ false → Sets s n r k (Remove n k 0) Yes s.next r.uploads []
  fewer : (num : ℕ) (v : Version) → (num ≡ 0 → ⊥) → find (is_num num) (at' k r) ≡ v ∷ [] → is_held s.now v ≡ false →
      Sets s n r k (Remove n k num) Yes s.next r.uploads (keep (λ (w : Version). not (is_num v.num w)) (at' k r))
  longer : (num until : ℕ) (v : Version) → T (small until) → find (is_num num) (at' k r) ≡ v ∷ [] → is_removed v.body ≡ false →
      Sets s n r k (Hold n k num until) Yes s.next r.uploads (change (is_num num) (hold_to until) (at' k r))

-- the calls that change one room
pub data Within (s : State) (n : Name) (r : Room) : Call → Reply → ℕ → Room → Type 0 where
  sets : {c : Call} {reply : Reply} {next : ℕ} {us : List Upload} {vs : List Version} (k : Name) → Sets s n r k c reply next us vs →
      Within s n r c reply next (with_uploads us (with_objects (set_object k vs r.objects) r))
  begun : (k : Name) → T (name_ok k) → length r.uploads < 1024 →
      Within s n r (Begin n k) (Num s.next) (s.next + 1) (with_uploads (r.uploads ++ (record { num = s.next; key = k; parts = [] } ∷ [])) r)
  parted : (u p : ℕ) (bs : List ℕ) → 1 ≤ p → p ≤ 10000 → length bs ≤ 5242880 → T (bytes bs) →
      Within s n r (PutPart n u p bs) Yes s.next (with_uploads (change (is_upload u) (with_part p bs) r.uploads) r)
  aborted : (u : ℕ) → Within s n r (Abort n u) Yes s.next (with_uploads (others u r.uploads) r)
  ruled : (rs : List Rule) → length rs ≤ 64 → T (every rule_ok rs) → Within s n r (SetRules n rs) Yes s.next (with_rules rs r)

-- the room keeps its name
pub within_named : (s : State) (n : Name) (r : Room) {c : Call} {reply : Reply} {next : ℕ} {q : Room} → Within s n r c reply next q → q.name ≡ r.name
within_named s n r (sets k h) = refl
within_named s n r (begun k name few) = refl
within_named s n r (parted u p bs a b l ok) = refl
within_named s n r (aborted u) = refl
within_named s n r (ruled rs few fit) = refl

abbrev pub empty_room : Name → Bool → Room
empty_room n k = record { name = n; keeps = k; rules = []; objects = []; uploads = [] }

abbrev pub without : Name → List Room → List Room
without n rs = keep (λ (x : Room). not (is_room n x)) rs

pub data Step (s : State) : Call → Out → Type 0 where
  stands : {c : Call} (r : Reply) → Silent r → Step s c (record { reply = r; state = s })
  made : (n : Name) (k : Bool) → T (name_ok n) → some (is_room n) s.rooms ≡ false → length s.rooms < 256 →
      Step s (MakeRoom n k) (record { reply = Yes; state = with_rooms (s.rooms ++ (empty_room n k ∷ [])) s })
  dropped : (n : Name) (r : Room) → find (is_room n) s.rooms ≡ r ∷ [] → r.objects ≡ [] → Step s (DropRoom n) (record { reply = Yes; state = with_rooms (without n s.rooms) s })
  told : (t : ℕ) → T (small t) → Step s (Tick t) (record { reply = Yes; state = ticked (later t s.now) s })
  within : {c : Call} {reply : Reply} {next : ℕ} (n : Name) (r q : Room) → find (is_room n) s.rooms ≡ r ∷ [] → s.next < 4611686018427387904 →
      Within s n r c reply next q → Step s c (record { reply = reply; state = record { now = s.now; next = next; rooms = change (is_room n) (λ _. q) s.rooms } })

refused : {c : Call} (k : ℕ) (s : State) → Step s c (no k s)
refused k s = stands (No k) (λ j e. let z : ◌≡◌ {A = ℕ} 0 1 = cc in omega arith)

-- a test that refuses, or that failed
guard : {s : State} {c : Call} (b : Bool) (k : ℕ) (o : Out) → (b ≡ false → Step s c o) → Step s c (cond b (no k s) o)
guard {s} {c} b k o go = cond_both b (no k s) o (Step s c) (λ _. refused k s) go

-- in the room that is named, or refused
inside : {s : State} {c : Call} (n : Name) (f : Room → Out) → ((r : Room) → find (is_room n) s.rooms ≡ r ∷ [] → Step s c (f r)) → Step s c (in_room_or (find (is_room n) s.rooms) f s)
unfolding in_room_or
inside {s} {c} n f there = at_find (is_room n) (λ rs. Step s c (in_room_or rs f s)) s.rooms (λ _. refused 2 s) there

-- a change of the room that was found is its replacement
changes : {c : Call} {reply : Reply} {next : ℕ} (s : State) (n : Name) (r : Room) (f : Room → Room) → find (is_room n) s.rooms ≡ r ∷ [] →
    s.next < 4611686018427387904 → Within s n r c reply next (f r) →
    Step s c (record { reply = reply; state = record { now = s.now; next = next; rooms = change (is_room n) f s.rooms } })
changes s n r f e h w = rw (change_as (is_room n) f s.rooms r e) (within n r (f r) e h w)

-- a put in a room: refused, or a new version on top
put_in : (n k : Name) (bs : List ℕ) (x : Expect) (r : Room) (s : State) (P : Out → Type 0) → ((j : ℕ) → P (no j s)) →
    (length (at' k r) < 1024 → P (record { reply = Num s.next; state = numbered (change (is_room n) (with_objects (set_object k (on_top s.now r.keeps (fresh s (Bytes bs)) (at' k r)) r.objects)) s.rooms) s })) →
    P (puts n k bs x r s)
put_in n k bs x r s P refuse write =
    cond_both (not (meets x (at' k r))) (no 4 s) _ P (λ _. refuse 4) (λ _. cond_both (leb 1024 (length (at' k r))) (no 8 s) _ P (λ _. refuse 8) (λ e. write (leb-false 1024 (length (at' k r)) e)))

none_there : {A : Type 0} (xs : List A) → none xs ≡ true → xs ≡ []
unfolding none
none_there [] e = refl
none_there (x ∷ xs) e = absurd (false≢true e)

-- a test with three parts that all failed
three : (a b c : Bool) → (a || b || c) ≡ false → (a ≡ false) × (b ≡ false) × (c ≡ false)
three a b c e = let (p, q) = or_parts (a || b) c e in let (p₁, p₂) = or_parts a b p in (p₁, p₂, q)

make_steps : (n : Name) (k : Bool) (s : State) → Step s (MakeRoom n k) (acts (MakeRoom n k) s)
unfolding acts
make_steps n k s =
    guard (not (name_ok n)) _ _ λ ok.
    guard (some (is_room n) s.rooms) _ _ λ free.
    guard (leb 256 (length s.rooms)) _ _ λ few.
    made n k (so (not-false (name_ok n) ok)) free (leb-false 256 (length s.rooms) few)

drop_steps : (n : Name) (s : State) → Step s (DropRoom n) (acts (DropRoom n) s)
unfolding acts
drop_steps n s =
    inside n _ λ r e.
    cond_both (none r.objects && none r.uploads) _ _ (Step s (DropRoom n)) (λ h. dropped n r e (none_there r.objects (and_parts (none r.objects) (none r.uploads) h).0)) (λ _. refused 5 s)

tick_steps : (t : ℕ) (s : State) → Step s (Tick t) (acts (Tick t) s)
unfolding acts
tick_steps t s = cond_both (small t && ltb 0 t) _ _ (Step s (Tick t)) (λ h. told t (so (and_parts (small t) (ltb 0 t) h).0)) (λ _. refused 1 s)

silent_got : (num size : ℕ) (bs : List ℕ) → Silent (Got num size bs)
silent_got num size bs j e = let z : ◌≡◌ {A = ℕ} 0 1 = cc in omega arith

silent_list : (xs : List Shown) → Silent (List' xs)
silent_list xs j e = let z : ◌≡◌ {A = ℕ} 0 1 = cc in omega arith

get_steps : (n k : Name) (num from most : ℕ) (s : State) → Step s (Get n k num from most) (acts (Get n k num from most) s)
unfolding acts gets
get_steps n k num from most s =
    guard (ltb 5242880 most) _ _ λ _.
    inside n _ λ r e.
    shows (chosen num (at' k r))
  where
    shows : (vs : List Version) → Step s (Get n k num from most) (gets from most vs s)
    shows [] = refused 2 s
    shows (v ∷ vs) = stands _ (silent_got _ _ _)

look_steps : (n p after : Name) (most : ℕ) (s : State) → Step s (Look n p after most) (acts (Look n p after most) s)
unfolding acts
look_steps n p after most s =
    guard (ltb 1000 most) _ _ λ _.
    inside n _ λ r e.
    stands _ (silent_list _)

versions_steps : (n k : Name) (s : State) → Step s (Versions n k) (acts (Versions n k) s)
unfolding acts
versions_steps n k s = inside n _ λ r e. stands _ (silent_list _)

-- the calls that write, while there are numbers left
module _ (s : State) (left : s.next < 4611686018427387904) where
  put_steps : (n k : Name) (bs : List ℕ) (x : Expect) → Step s (Put n k bs x) (acts (Put n k bs x) s)
  unfolding acts
  put_steps n k bs x =
      guard (not (name_ok k) || ltb 5242880 (length bs) || not (bytes bs)) _ _ λ ok.
      inside n _ λ r e.
      put_in n k bs x r s (Step s (Put n k bs x)) (λ j. refused j s) λ few.
      let (a, b, c) = three (not (name_ok k)) (ltb 5242880 (length bs)) (not (bytes bs)) ok in
      changes s n r _ e left (sets k (new (Bytes bs) (by_put bs x (so (not-false (name_ok k) a)) (ltb-false 5242880 (length bs) b) (so (not-false (bytes bs) c))) few))

  remove_steps : (n k : Name) (num : ℕ) → Step s (Remove n k num) (acts (Remove n k num) s)
  unfolding acts removes_one
  remove_steps n k num =
      inside n _ λ r e.
      cond_both (eqb num 0) _ _ (Step s (Remove n k num))
      (λ z. rw (eqb-true num 0 z) (latest r e))
      (λ z. at_find (is_num num) (λ vs. Step s (Remove n k num) (removes_one n k vs r s)) (at' k r) (λ _. refused 2 s) (λ v d. one r e (eqb-false num 0 z) v d))
    where
      one : (r : Room) → find (is_room n) s.rooms ≡ r ∷ [] → (num ≡ 0 → ⊥) → (v : Version) → find (is_num num) (at' k r) ≡ v ∷ [] → Step s (Remove n k num) (removes_one n k (v ∷ []) r s)
      one r e z v d = guard (is_held s.now v) _ _ λ h. changes s n r _ e left (sets k (fewer num v z d h))

      latest : (r : Room) → find (is_room n) s.rooms ≡ r ∷ [] → Step s (Remove n k 0) (removes_latest n k r s)
      latest r e =
          guard (none (current (at' k r))) _ _ λ there.
          guard (leb 1024 (length (at' k r))) _ _ λ few.
          cond_both (r.keeps || some (is_held s.now) (at' k r)) _ _ (Step s (Remove n k 0))
          (λ _. changes s n r _ e left (sets k (new Removed (by_remove there) (leb-false 1024 (length (at' k r)) few))))
          (λ h. let (a, b) = or_parts r.keeps (some (is_held s.now) (at' k r)) h in changes s n r _ e left (sets k (gone a b)))

  begin_steps : (n k : Name) → Step s (Begin n k) (acts (Begin n k) s)
  unfolding acts
  begin_steps n k =
      guard (not (name_ok k)) _ _ λ ok.
      inside n _ λ r e.
      guard (leb 1024 (length r.uploads)) _ _ λ few.
      changes s n r _ e left (begun k (so (not-false (name_ok k) ok)) (leb-false 1024 (length r.uploads) few))

  part_steps : (n : Name) (u p : ℕ) (bs : List ℕ) → Step s (PutPart n u p bs) (acts (PutPart n u p bs) s)
  unfolding acts parts_put
  part_steps n u p bs =
      guard (eqb p 0 || ltb 10000 p || ltb 5242880 (length bs) || not (bytes bs)) _ _ λ ok.
      inside n _ λ r e.
      at_find (is_upload u) (λ us. Step s (PutPart n u p bs) (parts_put n u p bs us s)) r.uploads (λ _. refused 2 s) λ y d.
      let (a, b, c) = three (eqb p 0 || ltb 10000 p) (ltb 5242880 (length bs)) (not (bytes bs)) ok in
      let (a₁, a₂) = or_parts (eqb p 0) (ltb 10000 p) a in
      let from_one : 1 ≤ p = omega (arith, eqb-false p 0 a₁) in
      changes s n r (λ (y : Room). with_uploads (change (is_upload u) (with_part p bs) y.uploads) y) e left (parted u p bs from_one (ltb-false 10000 p a₂) (ltb-false 5242880 (length bs) b) (so (not-false (bytes bs) c)))

  abort_steps : (n : Name) (u : ℕ) → Step s (Abort n u) (acts (Abort n u) s)
  unfolding acts aborts
  abort_steps n u =
      inside n _ λ r e.
      at_find (is_upload u) (λ us. Step s (Abort n u) (aborts n u us s)) r.uploads (λ _. refused 2 s) λ y d.
      changes s n r (λ (y : Room). with_uploads (others u y.uploads) y) e left (aborted u)

  rules_steps : (n : Name) (rs : List Rule) → Step s (SetRules n rs) (acts (SetRules n rs) s)
  unfolding acts
  rules_steps n rs =
      guard (ltb 64 (length rs) || not (every rule_ok rs)) _ _ λ ok.
      inside n _ λ r e.
      let (a, b) = or_parts (ltb 64 (length rs)) (not (every rule_ok rs)) ok in
      changes s n r (with_rules rs) e left (ruled rs (ltb-false 64 (length rs) a) (so (not-false (every rule_ok rs) b)))

  hold_steps : (n k : Name) (num until : ℕ) → Step s (Hold n k num until) (acts (Hold n k num until) s)
  unfolding acts holds keep
  hold_steps n k num until =
      guard (not (small until)) _ _ λ ok.
      inside n _ λ r e.
      at_find (is_num num) (λ vs. Holds r (keep (λ (v : Version). not (is_removed v.body)) vs)) (at' k r) (λ _. refused 2 s) λ v d.
      cond_both (not (is_removed v.body)) (v ∷ []) [] (Holds r) (λ h. changes s n r _ e left (sets k (longer num until v (so (not-false (small until) ok)) d (not-true (is_removed v.body) h)))) (λ _. refused 2 s)
    where
      Holds : Room → List Version → Type 0
      Holds r vs = Step s (Hold n k num until) (holds n k num until vs r s)

  complete_steps : (n : Name) (u : ℕ) (x : Expect) → Step s (Complete n u x) (acts (Complete n u x) s)
  unfolding acts completes unless_no
  complete_steps n u x =
      inside n _ λ r e.
      at_find (is_upload u) (λ us. After (completes n u x us r s)) r.uploads (λ _. refused 2 s) λ y d.
      cond_both (none y.parts || not (gapless 1 y.parts)) (no 7 s) _ After (λ _. refused 7 s) λ whole.
      put_in n y.key (joined y.parts) x r s After (λ j. refused j s) λ few.
      -- first the object is set, then the upload goes: the room is changed twice
      let q : Room = with_objects (set_object y.key (on_top s.now r.keeps (fresh s (Bytes (joined y.parts))) (at' y.key r)) r.objects) r in
      rw (change_as (is_room n) (with_objects q.objects) s.rooms r e, change_again (is_room n) (λ (z : Room). with_uploads (others u z.uploads) z) q s.rooms (found (is_room n) s.rooms r [] e).passes)
      (within n r _ e left (sets y.key (new (Bytes (joined y.parts)) (by_complete u x y d (or_parts (none y.parts) (not (gapless 1 y.parts)) whole).0 refl) few)))
    where
      After : Out → Type 0
      After o = Step s (Complete n u x) (unless_no n u o)

acts_steps : (c : Call) (s : State) → (is_tick c ≡ false → s.next < 4611686018427387904) → Step s c (acts c s)
unfolding is_tick
acts_steps (MakeRoom n k) s left = make_steps n k s
acts_steps (DropRoom n) s left = drop_steps n s
acts_steps (Put n k bs x) s left = put_steps s (left refl) n k bs x
acts_steps (Get n k num from most) s left = get_steps n k num from most s
acts_steps (Remove n k num) s left = remove_steps s (left refl) n k num
acts_steps (Look n p after most) s left = look_steps n p after most s
acts_steps (Versions n k) s left = versions_steps n k s
acts_steps (Begin n k) s left = begin_steps s (left refl) n k
acts_steps (PutPart n u p bs) s left = part_steps s (left refl) n u p bs
acts_steps (Complete n u x) s left = complete_steps s (left refl) n u x
acts_steps (Abort n u) s left = abort_steps s (left refl) n u
acts_steps (Hold n k num until) s left = hold_steps s (left refl) n k num until
acts_steps (SetRules n rs) s left = rules_steps s (left refl) n rs
acts_steps (Tick t) s left = tick_steps t s

-- every call comes to one of these
pub steps : (c : Call) (s : State) → Step s c (does c s)
steps c s =
    guard (eqb s.now 0 && not (is_tick c)) _ _ λ _.
    guard (not (small s.next) && not (is_tick c)) _ _ λ h.
    acts_steps c s (λ tick. ltb-true s.next 4611686018427387904 (still tick h))
  where
    still : is_tick c ≡ false → (not (small s.next) && not (is_tick c)) ≡ false → small s.next ≡ true
    still tick h = elim (and_cases (not (small s.next)) (not (is_tick c)) h) [ inl a ↦ not-false (small s.next) a | inr b ↦ absurd (both_ways (is_tick c) tick (not-false (is_tick c) b)) ]
