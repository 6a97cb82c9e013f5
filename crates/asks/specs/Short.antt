-- Which calls of the code a line can hold.
-- Assumes nothing.
use Rattle.std.specs.Prelude.{◌+◌, Bool, true, false, ◌&&◌, List, [], ◌∷◌, length, nat_lt}
use Rattle.meaning.specs.Lists.{Name, every}
use Rattle.lines.specs.Calls.{call_bytes, rule_in, are_many}
use Rattle.lines.specs.Fits.{is_name}
use Rattle.lines.specs.Means.{means}
use Rattle.lines.specs.declared.calls.Call.{Call}
use Rattle.lines.specs.declared.calls.Call.TheVariants.{MakeRoom, DropRoom, Put, Get, Remove, Look, Versions, Begin, Part, Complete, Abort, Hold, Rules, Time}

abbrev pub names : Call → List Name
names (MakeRoom n k) = n.now ∷ []
names (DropRoom n) = n.now ∷ []
names (Put n k x bs) = n.now ∷ k.now ∷ []
names (Get n k num from most) = n.now ∷ k.now ∷ []
names (Remove n k num) = n.now ∷ k.now ∷ []
names (Look n p after most) = n.now ∷ p.now ∷ after.now ∷ []
names (Versions n k) = n.now ∷ k.now ∷ []
names (Begin n k) = n.now ∷ k.now ∷ []
names (Part n u p bs) = n.now ∷ []
names (Complete n u x) = n.now ∷ []
names (Abort n u) = n.now ∷ []
names (Hold n k num until) = n.now ∷ k.now ∷ []
names (Rules n count rs) = n.now ∷ []
names (Time t) = []

-- the rules are as many as is said
abbrev pub sound : Call → Bool
sound (MakeRoom n k) = true
sound (DropRoom n) = true
sound (Put n k x bs) = true
sound (Get n k num from most) = true
sound (Remove n k num) = true
sound (Look n p after most) = true
sound (Versions n k) = true
sound (Begin n k) = true
sound (Part n u p bs) = true
sound (Complete n u x) = true
sound (Abort n u) = true
sound (Hold n k num until) = true
sound (Rules n count rs) = are_many rule_in count rs.now
sound (Time t) = true

abbrev pub fits : Call → Bool
fits c = (sound c && every is_name (names c)) && nat_lt (4 + length (call_bytes (means c))) 4294967296

-- WHO WRITES WHICH

-- what is said of its kind
abbrev pub by_kind : Call → (room change read upload time : Bool) → Bool
by_kind (MakeRoom n k) room change read upload time = room
by_kind (DropRoom n) room change read upload time = room
by_kind (Put n k x bs) room change read upload time = change
by_kind (Get n k num from most) room change read upload time = read
by_kind (Remove n k num) room change read upload time = change
by_kind (Look n p after most) room change read upload time = read
by_kind (Versions n k) room change read upload time = read
by_kind (Begin n k) room change read upload time = upload
by_kind (Part n u p bs) room change read upload time = upload
by_kind (Complete n u x) room change read upload time = upload
by_kind (Abort n u) room change read upload time = upload
by_kind (Hold n k num until) room change read upload time = change
by_kind (Rules n count rs) room change read upload time = room
by_kind (Time t) room change read upload time = time

-- it makes, drops or rules a room
abbrev pub of_room : Call → Bool
of_room c = by_kind c true false false false false

-- it changes what a key has
abbrev pub changes : Call → Bool
changes c = by_kind c false true false false false

-- it asks what a room or a key has
abbrev pub reads : Call → Bool
reads c = by_kind c false false true false false

-- it is of an upload in parts
abbrev pub uploads : Call → Bool
uploads c = by_kind c false false false true false
