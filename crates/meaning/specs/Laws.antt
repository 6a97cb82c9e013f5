-- The laws that people care about, for every state that calls and power cuts can lead to from a blank house.
-- Assumes nothing.
use Rattle.std.specs.Prelude.{◌≡◌, ℕ, ◌+◌, ◌<◌, ◌≤◌, Bool, true, false, not, ◌&&◌, T, ◌⊎◌, List, [], ◌∷◌, map, length, ◌≢◌}
use mathlib.Core.List.{Memᴰ}
use Rattle.meaning.specs.Lists.{Name, every, find, less, begins}
use Rattle.meaning.specs.Rooms.{Bytes, Removed, Version, Object, Part, Upload, Rule, Room, State, blank, Expect, Call, MakeRoom, Put, Remove, Look, Begin, PutPart, Complete, Tick, Shown, Reply, No, Num, List', Full}
use Rattle.meaning.specs.Does.{does, down, is_room, is_object, is_held, at', rule_for, due, later, small, bytes, name_ok, rule_ok, with_objects, with_rooms, versions_of}
use Rattle.meaning.specs.Weights.{weight}
use Rattle.meaning.specs.Answers.{Answers, Refuses}

-- RUNS: from one state to another by calls and power cuts
pub data Run : State → State → Type 0 where
  still : {s : State} → Run s s
  onward : {s t : State} (c : Call) → Run s t → Run s (does c t).state
  fell : {s t : State} → Run s t → Run s (down t)

-- the versions of a key in a room, the latest first; none where there is no such room or key
abbrev pub versions_in : Name → Name → State → List Version
versions_in n k s = in_rooms (find (is_room n) s.rooms)
  where
    in_rooms : List Room → List Version
    in_rooms [] = []
    in_rooms (r ∷ rs) = versions_of (find (is_object k) r.objects)

abbrev pub uploads_in : Name → State → List Upload
uploads_in n s = in_rooms (find (is_room n) s.rooms)
  where
    in_rooms : List Room → List Upload
    in_rooms [] = []
    in_rooms (r ∷ rs) = r.uploads

-- does the room keep older versions
abbrev pub keeps_of : Name → State → Bool
keeps_of n s = in_rooms (find (is_room n) s.rooms)
  where
    in_rooms : List Room → Bool
    in_rooms [] = false
    in_rooms (r ∷ rs) = r.keeps

-- 1. A NUMBER TELLS ONE CONTENT, one time, one room and one key, for good; its hold only grows.
pub record Same (n m k l : Name) (v w : Version) : Type 0 where
  pub body : v.body ≡ w.body
  pub at : v.at ≡ w.at
  pub room : n ≡ m
  pub key : k ≡ l
  pub held : v.held ≤ w.held

abbrev pub NumbersTell : Type 0
NumbersTell =
    (s t : State) → Run blank s → Run s t → (n m k l : Name) (v w : Version) → Memᴰ v (versions_in n k s) → Memᴰ w (versions_in m l t) → 1 ≤ v.num → v.num ≡ w.num →
    Same n m k l v w

-- 2. WHAT IS PUT STAYS. The version is still among these, with at least its hold.
pub record StillIn (v : Version) (vs : List Version) : Type 0 where
  pub found : Version
  pub there : Memᴰ found vs
  pub num : found.num ≡ v.num
  pub body : found.body ≡ v.body
  pub at : found.at ≡ v.at
  pub held : v.held ≤ found.held

-- w lies right on top of v
pub data OnTopOf (w v : Version) : List Version → Type 0 where
  here : {vs : List Version} → OnTopOf w v (w ∷ v ∷ vs)
  below : {u : Version} {vs : List Version} → OnTopOf w v vs → OnTopOf w v (u ∷ vs)

-- a rule's time has come for a version: for the latest by `lasts`, which takes it away only in a room that doesn't keep;
-- for an older one by `old_lasts`, counted from when the one on top of it came
pub data DueBy (now : ℕ) (keeps : Bool) (x : Rule) (v : Version) (vs : List Version) : Type 0 where
  as_latest : (ws : List Version) → vs ≡ v ∷ ws → keeps ≡ false → T (due now x.lasts v.at) → DueBy now keeps x v vs
  as_older : (w : Version) → OnTopOf w v vs → T (due now x.old_lasts w.at) → DueBy now keeps x v vs

-- the ways in which a version with bytes may go
pub data MayGo (s : State) (n k : Name) (v : Version) : Call → Type 0 where
  by_number : MayGo s n k v (Remove n k v.num)
  by_rule : (t : ℕ) (r : Room) (x : Rule) → find (is_room n) s.rooms ≡ r ∷ [] → rule_for k r.rules ≡ x ∷ [] → DueBy (later t s.now) r.keeps x v (at' k r) → MayGo s n k v (Tick t)
  by_newer : (bs : List ℕ) (x : Expect) → keeps_of n s ≡ false → MayGo s n k v (Put n k bs x)
  by_removing : keeps_of n s ≡ false → MayGo s n k v (Remove n k 0)
  by_upload : (x : Expect) (u : Upload) → Memᴰ u (uploads_in n s) → u.key ≡ k → keeps_of n s ≡ false → MayGo s n k v (Complete n u.num x)

abbrev pub Stays : Type 0
Stays =
    (s : State) (c : Call) → Run blank s → (n k : Name) (v : Version) (bs : List ℕ) → Memᴰ v (versions_in n k s) → v.body ≡ Bytes bs →
    StillIn v (versions_in n k (does c s).state) ⊎ (MayGo s n k v c × T (not (is_held (does c s).state.now v)))

-- 3. WHAT IS HELD STAYS, whatever is called and whatever rules there are, until its time: with its bytes, in its room, and at least its hold.
abbrev pub HeldStays : Type 0
HeldStays = (s t : State) → Run blank s → Run s t → (n k : Name) (v : Version) → Memᴰ v (versions_in n k s) → T (is_held t.now v) → StillIn v (versions_in n k t)

-- .. that is, as long as the time of the house is below its hold
abbrev pub HeldUntil : Type 0
HeldUntil = (s t : State) → Run blank s → Run s t → (n k : Name) (v : Version) → Memᴰ v (versions_in n k s) → t.now < v.held → StillIn v (versions_in n k t)

-- .. and not for longer: its number is refused as held only before its time
abbrev pub HoldEnds : Type 0
HoldEnds = (s : State) → Run blank s → (n k : Name) (v : Version) → Memᴰ v (versions_in n k s) → 1 ≤ v.num → (does (Remove n k v.num) s).reply ≡ No 6 → s.now < v.held

-- 4. A LIST IS EXACT.
unfoldable pub rising_keys : List Object → Bool
rising_keys [] = true
rising_keys (o ∷ []) = true
rising_keys (o ∷ p ∷ os) = less o.key p.key && rising_keys (p ∷ os)

unfoldable pub rising_shown : List Shown → Bool
rising_shown [] = true
rising_shown (x ∷ []) = true
rising_shown (x ∷ y ∷ ys) = less x.key y.key && rising_shown (y ∷ ys)

-- what a list should show: a key of the room that begins so and comes after, with the number and the length of its latest version, which has bytes
pub data InRoom (r : Room) (prefix after : Name) : Shown → Type 0 where
  shown : (o : Object) (v : Version) (vs : List Version) → Memᴰ o r.objects → o.versions ≡ v ∷ vs → (bs : List ℕ) → v.body ≡ Bytes bs → T (begins prefix o.key) → T (less after o.key) →
      InRoom r prefix after (record { key = o.key; num = v.num; size = length bs })

pub record Exact (r : Room) (prefix after : Name) (most : ℕ) (xs : List Shown) : Type 0 where
  pub keys_rise : T (rising_keys r.objects)
  pub list_rises : T (rising_shown xs)
  pub each_is_there : (x : Shown) → Memᴰ x xs → InRoom r prefix after x
  pub none_left_out_before : (x y : Shown) → Memᴰ x xs → InRoom r prefix after y → T (less y.key x.key) → Memᴰ y xs
  pub none_left_out : (x : Shown) → InRoom r prefix after x → length xs < most → Memᴰ x xs
  pub no_more : length xs ≤ most

abbrev pub ListExact : Type 0
ListExact =
    (s : State) → Run blank s → (n p a : Name) (most : ℕ) (r : Room) (xs : List Shown) → find (is_room n) s.rooms ≡ r ∷ [] → (does (Look n p a most) s).reply ≡ List' xs → Exact r p a most xs

-- 5. NUMBERS RISE: one that is answered is the next one, the next is then one more, and every number there is lies below the next. So none is given twice.
pub record Rises (s : State) (c : Call) : Type 0 where
  pub is_next : (k : ℕ) → (does c s).reply ≡ Num k → k ≡ s.next
  pub counts : (k : ℕ) → (does c s).reply ≡ Num k → (does c s).state.next ≡ s.next + 1
  pub counts_no_other : ((k : ℕ) → (does c s).reply ≢ Num k) → (does c s).state.next ≡ s.next
  pub versions_below : (n k : Name) (v : Version) → Memᴰ v (versions_in n k s) → v.num < s.next
  pub uploads_below : (n : Name) (u : Upload) → Memᴰ u (uploads_in n s) → u.num < s.next

abbrev pub NumbersRise : Type 0
NumbersRise = (s : State) (c : Call) → Run blank s → Rises s c

-- 6. WHAT IS TURNED AWAY CHANGES NOTHING, answered by a number or by full.
abbrev pub RefusalsChangeNothing : Type 0
RefusalsChangeNothing = (can : Call → Bool) (size : ℕ) (c : Call) (s t : State) (r : Reply) → Answers can size c s r t → Refuses r → t ≡ s

-- 7. ONLY THESE MAKE THE WEIGHT GROW, so only these are ever answered by full.
pub data Grows : Call → Type 0 where
  making : (n : Name) (keeps : Bool) → Grows (MakeRoom n keeps)
  putting : (n k : Name) (bs : List ℕ) (x : Expect) → Grows (Put n k bs x)
  beginning : (n k : Name) → Grows (Begin n k)
  putting_a_part : (n : Name) (u p : ℕ) (bs : List ℕ) → Grows (PutPart n u p bs)
  removing_the_latest : (n k : Name) → Grows (Remove n k 0)

abbrev pub WeightGrows : Type 0
WeightGrows = (s : State) (c : Call) → Run blank s → weight s < weight (does c s).state → Grows c

abbrev pub FullOnly : Type 0
FullOnly = (can : Call → Bool) (size : ℕ) (s t : State) (c : Call) (r : Reply) → Run blank s → Answers can size c s r t → r ≡ Full → Grows c

-- 8. RULES DO TO EACH THING what they would do if it were alone in its room, and its room alone in the house; telling the same time again changes nothing.
abbrev pub alone : Name → Name → State → State
alone n k s = with_rooms (map (λ (r : Room). with_objects (find (is_object k) r.objects) r) (find (is_room n) s.rooms)) s

abbrev pub RulesAlone : Type 0
RulesAlone = (s : State) (t : ℕ) → Run blank s → (n k : Name) → versions_in n k (does (Tick t) s).state ≡ versions_in n k (does (Tick t) (alone n k s)).state

abbrev pub SameTimeAgain : Type 0
SameTimeAgain = (s : State) (t : ℕ) → Run blank s → (does (Tick t) (does (Tick t) s).state).state ≡ (does (Tick t) s).state

-- 9. NOTHING OUTGROWS ITS BOUND, and every name and number is in range.
pub record VersionFits (now next : ℕ) (v : Version) : Type 0 where
  pub num_below : v.num < next
  pub numbered : (bs : List ℕ) → v.body ≡ Bytes bs → 1 ≤ v.num
  pub came : v.at ≤ now
  pub hold_small : T (small v.held)
  pub mark_not_held : v.body ≡ Removed → v.held ≡ 0
  pub of_bytes : (bs : List ℕ) → v.body ≡ Bytes bs → T (bytes bs) × (length bs ≤ 52428800000)

-- 1,024 versions, and a rule's mark on top of them
pub record ObjectFits (now next : ℕ) (o : Object) : Type 0 where
  pub key_fits : T (name_ok o.key)
  pub some_version : 1 ≤ length o.versions
  pub few : length o.versions ≤ 1025
  pub rules_mark : length o.versions ≡ 1025 → (v : Version) (vs : List Version) → o.versions ≡ v ∷ vs → v.num ≡ 0
  pub each_fits : (v : Version) → Memᴰ v o.versions → VersionFits now next v

pub record PartFits (p : Part) : Type 0 where
  pub from_one : 1 ≤ p.place
  pub place_below : p.place ≤ 10000
  pub short : length p.bytes ≤ 5242880
  pub of_bytes : T (bytes p.bytes)

pub record UploadFits (next : ℕ) (u : Upload) : Type 0 where
  pub key_fits : T (name_ok u.key)
  pub from_one : 1 ≤ u.num
  pub num_below : u.num < next
  pub few : length u.parts ≤ 10000
  pub each_fits : (p : Part) → Memᴰ p u.parts → PartFits p

pub record RoomFits (now next : ℕ) (r : Room) : Type 0 where
  pub name_fits : T (name_ok r.name)
  pub few_rules : length r.rules ≤ 64
  pub rules_fit : T (every rule_ok r.rules)
  pub few_uploads : length r.uploads ≤ 1024
  pub uploads_fit : (u : Upload) → Memᴰ u r.uploads → UploadFits next u
  pub objects_fit : (o : Object) → Memᴰ o r.objects → ObjectFits now next o

pub record Fits (s : State) : Type 0 where
  pub few_rooms : length s.rooms ≤ 256
  pub now_small : T (small s.now)
  pub next_from_one : 1 ≤ s.next
  pub next_bounded : s.next ≤ 4611686018427387904
  pub rooms_fit : (r : Room) → Memᴰ r s.rooms → RoomFits s.now s.next r

abbrev pub StaysInBounds : Type 0
StaysInBounds = (s : State) → Run blank s → Fits s
