-- Which values a line can hold.
-- Assumes nothing.
use Rattle.std.specs.Prelude.{ℕ, ◌+◌, ◌^◌, ◌<◌, Bool, List, [], ◌∷◌, length, nat_lt, slice_index}
use Rattle.meaning.specs.Lists.{Name}
use Rattle.meaning.specs.Rooms.{Rule, Expect, Any, Absent, Is, Call, MakeRoom, DropRoom, Put, Get, Remove, Look, Versions, Begin, PutPart, Complete, Abort, Hold, SetRules, Tick}
use Rattle.lines.specs.Calls.{call_bytes}

abbrev pub Bytes : List ℕ → Type 0
Bytes l = (i : ℕ) → slice_index l i < 256

-- can the length of a name be said in its one byte
abbrev pub is_name : Name → Bool
is_name n = nat_lt (length n) 256

abbrev pub NumberFits : (k : ℕ) → ℕ → Type 0
NumberFits k n = n < 256 ^ k

abbrev pub CountedFits : (k : ℕ) → List ℕ → Type 0
CountedFits k bs = (length bs < 256 ^ k) × Bytes bs

abbrev pub NameFits : Name → Type 0
NameFits n = CountedFits 1 n

abbrev pub ContentFits : List ℕ → Type 0
ContentFits bs = CountedFits 4 bs

abbrev pub FlagFits : Bool → Type 0
FlagFits b = Unit {0}

abbrev pub ExpectFits : Expect → Type 0
ExpectFits Any = Unit {0}
ExpectFits Absent = Unit {0}
ExpectFits (Is n) = NumberFits 8 n

abbrev pub RuleFits : Rule → Type 0
RuleFits x = NameFits x.prefix × NumberFits 8 x.lasts × NumberFits 8 x.old_lasts

abbrev pub Each : {A : Type 0} → (A → Type 0) → List A → Type 0
Each P [] = Unit {0}
Each P (x ∷ xs) = P x × Each P xs

abbrev pub FieldsFit : Call → Type 0
FieldsFit (MakeRoom n k) = NameFits n
FieldsFit (DropRoom n) = NameFits n
FieldsFit (Put n k bs x) = NameFits n × NameFits k × ExpectFits x × ContentFits bs
FieldsFit (Get n k num from most) = NameFits n × NameFits k × NumberFits 8 num × NumberFits 8 from × NumberFits 4 most
FieldsFit (Remove n k num) = NameFits n × NameFits k × NumberFits 8 num
FieldsFit (Look n p after most) = NameFits n × NameFits p × NameFits after × NumberFits 2 most
FieldsFit (Versions n k) = NameFits n × NameFits k
FieldsFit (Begin n k) = NameFits n × NameFits k
FieldsFit (PutPart n u p bs) = NameFits n × NumberFits 8 u × NumberFits 2 p × ContentFits bs
FieldsFit (Complete n u x) = NameFits n × NumberFits 8 u × ExpectFits x
FieldsFit (Abort n u) = NameFits n × NumberFits 8 u
FieldsFit (Hold n k num until) = NameFits n × NameFits k × NumberFits 8 num × NumberFits 8 until
FieldsFit (SetRules n rs) = NameFits n × NumberFits 1 (length rs) × Each RuleFits rs
FieldsFit (Tick t) = NumberFits 8 t

-- the length of a line has four bytes, and counts the tag
abbrev pub CallFits : Call → Type 0
CallFits c = FieldsFit c × NumberFits 4 (4 + length (call_bytes c))
