-- What the code's calls mean, whose names and bytes are parts of a line.
-- Assumes nothing.
use Rattle.std.specs.Prelude.{Option}
use Rattle.std.specs.Option.{option_map}
use Rattle.meaning.specs.Rooms as meaning
use Rattle.meaning.specs.Rooms.{Expect}
use Rattle.lines.specs.Calls as calls
use Rattle.lines.specs.Calls.{rule_in, all_in}
use Rattle.lines.specs.declared.calls.Expected.{Expected}
use Rattle.lines.specs.declared.calls.Expected.TheVariants.{Any, Absent, Is}
use Rattle.lines.specs.declared.calls.Rule.{Rule}
use Rattle.lines.specs.declared.fields.Head.{Head}
use Rattle.lines.specs.declared.calls.Call.{Call}
use Rattle.lines.specs.declared.calls.Call.TheVariants.{MakeRoom, DropRoom, Put, Get, Remove, Look, Versions, Begin, Part, Complete, Abort, Hold, Rules, Time}

abbrev pub expects : Expected → Expect
expects Any = meaning.Any
expects Absent = meaning.Absent
expects (Is n) = meaning.Is n

abbrev pub headed : Head → calls.Head
headed h = record { tag = h.tag; kind = h.kind }

abbrev pub ruled : Rule → meaning.Rule
ruled x = record { prefix = x.beginning.now; lasts = x.lasts; old_lasts = x.older_last }

abbrev pub means : Call → meaning.Call
means (MakeRoom n k) = meaning.MakeRoom n.now k
means (DropRoom n) = meaning.DropRoom n.now
means (Put n k x bs) = meaning.Put n.now k.now bs.now (expects x)
means (Get n k num from most) = meaning.Get n.now k.now num from most
means (Remove n k num) = meaning.Remove n.now k.now num
means (Look n p after most) = meaning.Look n.now p.now after.now most
means (Versions n k) = meaning.Versions n.now k.now
means (Begin n k) = meaning.Begin n.now k.now
means (Part n u p bs) = meaning.PutPart n.now u p bs.now
means (Complete n u x) = meaning.Complete n.now u (expects x)
means (Abort n u) = meaning.Abort n.now u
means (Hold n k num until) = meaning.Hold n.now k.now num until
means (Rules n count rs) = meaning.SetRules n.now (all_in rule_in count rs.now)
means (Time t) = meaning.Tick t

abbrev pub meant : Option Call → Option meaning.Call
meant o = option_map means o
