-- What every call does: the order of the tests in each definition is the order of its refusals.
-- Assumes nothing.
use Rattle.std.specs.Prelude.{ℕ, suc, ◌+◌, Bool, true, false, cond, not, ◌&&◌, ◌||◌, ltb, List, [], ◌∷◌, ◌++◌, map, length, ◌==◌, nat_le, nat_lt}
use Rattle.meaning.specs.Lists.{Name, some, every, keep, find, change, first_of, drop_of, none, less, same, begins}
use Rattle.meaning.specs.Rooms.{Body, Bytes, Removed, Version, Object, Part, Upload, Rule, Room, State, Expect, Any, Absent, Is, Call, MakeRoom, DropRoom, Put, Get, Remove, Look, Versions, Begin, PutPart, Complete, Abort, Hold, SetRules, Tick, Shown, Reply, No, Yes, Num, Got, List', Full, Out}

abbrev pub no : ℕ → State → Out
no k s = record { reply = No k; state = s }

abbrev pub is_room : Name → Room → Bool
is_room n r = same n r.name

abbrev pub with_rooms : List Room → State → State
with_rooms rs s = record { now = s.now; next = s.next; rooms = rs }

abbrev pub numbered : List Room → State → State
numbered rs s = record { now = s.now; next = s.next + 1; rooms = rs }

abbrev pub with_objects : List Object → Room → Room
with_objects os r = record { name = r.name; keeps = r.keeps; rules = r.rules; objects = os; uploads = r.uploads }

abbrev pub with_uploads : List Upload → Room → Room
with_uploads us r = record { name = r.name; keeps = r.keeps; rules = r.rules; objects = r.objects; uploads = us }

abbrev pub in_room : Name → (Room → Room) → State → State
in_room n f s = with_rooms (change (is_room n) f s.rooms) s

abbrev pub is_object : Name → Object → Bool
is_object k o = same k o.key

unfoldable pub versions_of : List Object → List Version
versions_of [] = []
versions_of (o ∷ os) = o.versions

abbrev pub at' : Name → Room → List Version
at' k r = versions_of (find (is_object k) r.objects)

-- an object with these versions stands in the room, or none if there are none
unfoldable pub set_object : Name → List Version → List Object → List Object
set_object k [] os = keep (λ (o : Object). not (is_object k o)) os
set_object k (v ∷ vs) [] = record { key = k; versions = v ∷ vs } ∷ []
set_object k (v ∷ vs) (o ∷ os) = cond (less k o.key) (record { key = k; versions = v ∷ vs } ∷ o ∷ os) (cond (less o.key k) (o ∷ set_object k (v ∷ vs) os) (record { key = k; versions = v ∷ vs } ∷ os))

unfoldable pub is_removed : Body → Bool
is_removed (Bytes bs) = false
is_removed Removed = true

unfoldable pub bytes_of : Body → List ℕ
bytes_of (Bytes bs) = bs
bytes_of Removed = []

-- the latest, if it is one with bytes
unfoldable pub current : List Version → List Version
current [] = []
current (v ∷ vs) = cond (is_removed v.body) [] (v ∷ [])

unfoldable pub num_of : List Version → ℕ
num_of [] = 0
num_of (v ∷ vs) = v.num

unfoldable pub meets : Expect → List Version → Bool
meets Any vs = true
meets Absent vs = none (current vs)
meets (Is n) vs = not (none (current vs)) && n == num_of vs

abbrev pub is_held : ℕ → Version → Bool
is_held now v = nat_lt now v.held

-- a new latest version; where older ones aren't kept, only those that are held stay
abbrev pub on_top : ℕ → Bool → Version → List Version → List Version
on_top now keeps v vs = v ∷ cond keeps vs (keep (is_held now) vs)

abbrev pub bytes : List ℕ → Bool
bytes bs = every (λ (b : ℕ). ltb b 256) bs

abbrev pub name_ok : Name → Bool
name_ok n = nat_lt 0 (length n) && nat_le (length n) 255 && bytes n

unfoldable pub in_room_or : List Room → (Room → Out) → State → Out
in_room_or [] f s = no 2 s
in_room_or (r ∷ rs) f s = f r

abbrev pub puts : Name → Name → List ℕ → Expect → Room → State → Out
puts n k bs x r s =
    cond (not (meets x (at' k r))) (no 4 s) (cond (nat_le 1024 (length (at' k r))) (no 8 s)
    (record { reply = Num s.next; state = numbered (change (is_room n) (with_objects (set_object k (on_top s.now r.keeps (record { num = s.next; body = Bytes bs; at = s.now; held = 0 }) (at' k r)) r.objects)) s.rooms) s }))

abbrev pub is_num : ℕ → Version → Bool
is_num k v = k == v.num

abbrev pub chosen : ℕ → List Version → List Version
chosen num vs = cond (num == 0) (current vs) (keep (λ (v : Version). not (is_removed v.body)) (find (is_num num) vs))

unfoldable pub gets : ℕ → ℕ → List Version → State → Out
gets from most [] s = no 2 s
gets from most (v ∷ vs) s = record { reply = Got v.num (length (bytes_of v.body)) (first_of most (drop_of from (bytes_of v.body))); state = s }

unfoldable pub removes_one : Name → Name → List Version → Room → State → Out
removes_one n k [] r s = no 2 s
removes_one n k (v ∷ vs) r s = cond (is_held s.now v) (no 6 s) (record { reply = Yes; state = in_room n (with_objects (set_object k (keep (λ (w : Version). not (is_num v.num w)) (at' k r)) r.objects)) s })

abbrev pub removes_latest : Name → Name → Room → State → Out
removes_latest n k r s =
    cond (none (current (at' k r))) (no 2 s) (cond (nat_le 1024 (length (at' k r))) (no 8 s) (cond (r.keeps || some (is_held s.now) (at' k r))
    (record { reply = Num s.next; state = numbered (change (is_room n) (with_objects (set_object k (on_top s.now r.keeps (record { num = s.next; body = Removed; at = s.now; held = 0 }) (at' k r)) r.objects)) s.rooms) s })
    (record { reply = Yes; state = in_room n (with_objects (set_object k [] r.objects)) s })))

unfoldable pub shown_of : List Object → List Shown
shown_of [] = []
shown_of (o ∷ os) = cond (none (current o.versions)) (shown_of os) (record { key = o.key; num = num_of o.versions; size = length (bytes_of (body_of o.versions)) } ∷ shown_of os)
  where
    body_of : List Version → Body
    body_of [] = Removed
    body_of (v ∷ vs) = v.body

unfoldable pub all_shown : Name → List Version → List Shown
all_shown k [] = []
all_shown k (v ∷ vs) = record { key = k; num = v.num; size = length (bytes_of v.body) } ∷ all_shown k vs

-- uploads

abbrev pub is_upload : ℕ → Upload → Bool
is_upload u x = u == x.num

unfoldable pub set_part : ℕ → List ℕ → List Part → List Part
set_part p bs [] = record { place = p; bytes = bs } ∷ []
set_part p bs (x ∷ xs) = cond (nat_lt p x.place) (record { place = p; bytes = bs } ∷ x ∷ xs) (cond (p == x.place) (record { place = p; bytes = bs } ∷ xs) (x ∷ set_part p bs xs))

unfoldable pub gapless : ℕ → List Part → Bool
gapless n [] = true
gapless n (x ∷ xs) = n == x.place && gapless (suc n) xs

unfoldable pub joined : List Part → List ℕ
joined [] = []
joined (x ∷ xs) = x.bytes ++ joined xs

unfoldable pub parts_put : Name → ℕ → ℕ → List ℕ → List Upload → State → Out
parts_put n u p bs [] s = no 2 s
parts_put n u p bs (x ∷ xs) s =
    record { reply = Yes; state = in_room n (λ (r : Room). with_uploads (change (is_upload u) (λ (y : Upload). record { num = y.num; key = y.key; parts = set_part p bs y.parts }) r.uploads) r) s }

unfoldable pub completes : Name → ℕ → Expect → List Upload → Room → State → Out
completes n u x [] r s = no 2 s
completes n u x (y ∷ ys) r s =
    cond (none y.parts || not (gapless 1 y.parts)) (no 7 s)
    (puts n y.key (joined y.parts) x r s)

-- when it was done, the upload is gone
unfoldable pub unless_no : Name → ℕ → Out → Out
unless_no n u o = closing o.reply
  where
    closing : Reply → Out
    closing (No k) = o
    closing Yes = o
    closing (Num k) = record { reply = Num k; state = in_room n (λ (r : Room). with_uploads (keep (λ (y : Upload). not (is_upload u y)) r.uploads) r) o.state }
    closing (Got k z bs) = o
    closing (List' xs) = o
    closing Full = o

unfoldable pub aborts : Name → ℕ → List Upload → State → Out
aborts n u [] s = no 2 s
aborts n u (x ∷ xs) s = record { reply = Yes; state = in_room n (λ (r : Room). with_uploads (keep (λ (y : Upload). not (is_upload u y)) r.uploads) r) s }

abbrev pub higher : ℕ → ℕ → ℕ
higher a b = cond (nat_lt a b) b a

unfoldable pub holds : Name → Name → ℕ → ℕ → List Version → Room → State → Out
holds n k num until [] r s = no 2 s
holds n k num until (v ∷ vs) r s =
    record { reply = Yes; state = in_room n (with_objects (set_object k (change (is_num num) (λ (w : Version). record { num = w.num; body = w.body; at = w.at; held = higher w.held until }) (at' k r)) r.objects)) s }

-- TIME, and what rules take away

abbrev pub due : (now lasts at : ℕ) → Bool
due now l a = not (l == 0) && nat_lt (a + l) now

abbrev pub rule_for : Name → List Rule → List Rule
rule_for k rs = find (λ (x : Rule). begins x.prefix k) rs

unfoldable pub old_kept : (now l next : ℕ) → List Version → List Version
old_kept now l next_at [] = []
old_kept now l next_at (v ∷ vs) = cond (due now l next_at && not (is_held now v)) (old_kept now l v.at vs) (v ∷ old_kept now l v.at vs)

-- a Removed that has nothing under it any more goes too
unfoldable pub tidy : List Version → List Version
tidy [] = []
tidy (v ∷ []) = cond (is_removed v.body) [] (v ∷ [])
tidy (v ∷ w ∷ vs) = v ∷ w ∷ vs

-- what stays under what a rule took, where older ones aren't kept, is held: it isn't seen
unfoldable pub covered : ℕ → List Version → List Version
covered now [] = []
covered now (v ∷ vs) = record { num = 0; body = Removed; at = now; held = 0 } ∷ v ∷ vs

unfoldable pub aged : (now : ℕ) → Bool → List Rule → List Version → List Version
aged now keeps [] vs = vs
aged now keeps (x ∷ xs) [] = []
aged now keeps (x ∷ xs) (v ∷ vs) =
    tidy (cond (due now x.lasts v.at && not (is_removed v.body) && not (is_held now v))
    (cond keeps (record { num = 0; body = Removed; at = now; held = 0 } ∷ v ∷ old_kept now x.old_lasts v.at vs) (covered now (old_kept now x.old_lasts v.at vs)))
    (v ∷ old_kept now x.old_lasts v.at vs))

unfoldable pub kept : Name → List Version → List Object → List Object
kept k [] os = os
kept k (v ∷ vs) os = record { key = k; versions = v ∷ vs } ∷ os

unfoldable pub aged_objects : ℕ → Room → List Object → List Object
aged_objects now r [] = []
aged_objects now r (o ∷ os) = kept o.key (aged now r.keeps (rule_for o.key r.rules) o.versions) (aged_objects now r os)

abbrev pub aged_room : ℕ → Room → Room
aged_room now r = with_objects (aged_objects now r r.objects) r

abbrev pub later : ℕ → ℕ → ℕ
later t now = cond (nat_lt now t) t now

abbrev pub ticked : ℕ → State → State
ticked t s = record { now = t; next = s.next; rooms = map (aged_room t) s.rooms }

abbrev pub small : ℕ → Bool
small n = nat_lt n 4611686018427387904

abbrev pub rule_ok : Rule → Bool
rule_ok x = nat_le (length x.prefix) 255 && bytes x.prefix && small x.lasts && small x.old_lasts

unfoldable pub acts : Call → State → Out
acts (MakeRoom n k) s =
    cond (not (name_ok n)) (no 1 s) (cond (some (is_room n) s.rooms) (no 3 s) (cond (nat_le 256 (length s.rooms)) (no 8 s)
    (record { reply = Yes; state = with_rooms (s.rooms ++ (record { name = n; keeps = k; rules = []; objects = []; uploads = [] } ∷ [])) s })))
acts (DropRoom n) s = in_room_or (find (is_room n) s.rooms) (λ (r : Room). cond (none r.objects && none r.uploads) (record { reply = Yes; state = with_rooms (keep (λ (x : Room). not (is_room n x)) s.rooms) s }) (no 5 s)) s
acts (Put n k bs x) s = cond (not (name_ok k) || nat_lt 5242880 (length bs) || not (bytes bs)) (no 1 s) (in_room_or (find (is_room n) s.rooms) (λ (r : Room). puts n k bs x r s) s)
acts (Get n k num from most) s = cond (nat_lt 5242880 most) (no 1 s) (in_room_or (find (is_room n) s.rooms) (λ (r : Room). gets from most (chosen num (at' k r)) s) s)
acts (Remove n k num) s = in_room_or (find (is_room n) s.rooms) (λ (r : Room). cond (num == 0) (removes_latest n k r s) (removes_one n k (find (is_num num) (at' k r)) r s)) s
acts (Look n p after most) s =
    cond (nat_lt 1000 most) (no 1 s) (in_room_or (find (is_room n) s.rooms) (λ (r : Room). record { reply = List' (first_of most (shown_of (keep (λ (o : Object). begins p o.key && less after o.key) r.objects))); state = s }) s)
acts (Versions n k) s = in_room_or (find (is_room n) s.rooms) (λ (r : Room). record { reply = List' (all_shown k (at' k r)); state = s }) s
acts (Begin n k) s =
    cond (not (name_ok k)) (no 1 s) (in_room_or (find (is_room n) s.rooms) (λ (r : Room). cond (nat_le 1024 (length r.uploads)) (no 8 s)
    (record { reply = Num s.next; state = numbered (change (is_room n) (with_uploads (r.uploads ++ (record { num = s.next; key = k; parts = [] } ∷ []))) s.rooms) s })) s)
acts (PutPart n u p bs) s = cond (p == 0 || nat_lt 10000 p || nat_lt 5242880 (length bs) || not (bytes bs)) (no 1 s) (in_room_or (find (is_room n) s.rooms) (λ (r : Room). parts_put n u p bs (find (is_upload u) r.uploads) s) s)
acts (Complete n u x) s = in_room_or (find (is_room n) s.rooms) (λ (r : Room). unless_no n u (completes n u x (find (is_upload u) r.uploads) r s)) s
acts (Abort n u) s = in_room_or (find (is_room n) s.rooms) (λ (r : Room). aborts n u (find (is_upload u) r.uploads) s) s
acts (Hold n k num until) s = cond (not (small until)) (no 1 s) (in_room_or (find (is_room n) s.rooms) (λ (r : Room). holds n k num until (keep (λ (v : Version). not (is_removed v.body)) (find (is_num num) (at' k r))) r s) s)
acts (SetRules n rs) s =
    cond (nat_lt 64 (length rs) || not (every rule_ok rs)) (no 1 s) (in_room_or (find (is_room n) s.rooms) (λ (r : Room). record { reply = Yes; state = in_room n (λ (y : Room). record { name = y.name; keeps = y.keeps; rules = rs; objects = y.objects; uploads = y.uploads }) s }) s)
acts (Tick t) s = cond (small t && nat_lt 0 t) (record { reply = Yes; state = ticked (later t s.now) s }) (no 1 s)

unfoldable pub is_tick : Call → Bool
is_tick (MakeRoom n k) = false
is_tick (DropRoom n) = false
is_tick (Put n k bs x) = false
is_tick (Get n k m f l) = false
is_tick (Remove n k m) = false
is_tick (Look n p a m) = false
is_tick (Versions n k) = false
is_tick (Begin n k) = false
is_tick (PutPart n u p bs) = false
is_tick (Complete n u x) = false
is_tick (Abort n u) = false
is_tick (Hold n k m t) = false
is_tick (SetRules n rs) = false
is_tick (Tick t) = true

-- nothing is done before a time was told, and when numbers are used up
abbrev pub does : Call → State → Out
does c s = cond (s.now == 0 && not (is_tick c)) (no 10 s) (cond (not (small s.next) && not (is_tick c)) (no 8 s) (acts c s))

-- all that was answered stands, the time too
abbrev pub down : State → State
down s = s

-- the calls of the first landings: whole objects, no older versions shown
unfoldable pub core : Call → Bool
core (MakeRoom n k) = true
core (DropRoom n) = true
core (Put n k bs x) = true
core (Get n k m f l) = m == 0
core (Remove n k m) = m == 0
core (Look n p a m) = true
core (Versions n k) = false
core (Begin n k) = false
core (PutPart n u p bs) = false
core (Complete n u x) = false
core (Abort n u) = false
core (Hold n k m t) = false
core (SetRules n rs) = false
core (Tick t) = true
