-- What the code's refusals and stages stand for.
-- Assumes nothing.
use Rattle.std.specs.Prelude.{ℕ, Ok, Err, Result}
use Rattle.meaning.specs.Rooms as meaning
use Rattle.lines.specs.Order as order
use Rattle.lines.specs.Means.{means}
use Rattle.lines.specs.declared.calls.Call.{Call}
use Rattle.lines.specs.declared.order.Refusal.{Refusal}
use Rattle.lines.specs.declared.order.Refusal.TheVariants.{Wrong, Missing, Exists, Unexpected, NotEmpty, Held, Gap, UsedUp, NoTime, NotBuilt}
use Rattle.lines.specs.declared.order.Built.{Built}
use Rattle.lines.specs.declared.order.Built.TheVariants.{Nothing, Time, Core, All}

abbrev pub number_of : Refusal → ℕ
number_of Wrong = 1
number_of Missing = 2
number_of Exists = 3
number_of Unexpected = 4
number_of NotEmpty = 5
number_of Held = 6
number_of Gap = 7
number_of UsedUp = 8
number_of NoTime = 10
number_of NotBuilt = 12

abbrev pub built_by : Built → order.Built
built_by Nothing = order.nothing
built_by Time = order.only_time
built_by Core = order.the_core
built_by All = order.all

abbrev pub taken : Result Call Refusal → Result meaning.Call ℕ
taken (Ok c) = Ok (means c)
taken (Err e) = Err (number_of e)

-- the reply to a call that has nothing to tell but that it was done
abbrev pub reply_of : Result Unit Refusal → meaning.Reply
reply_of (Ok ok) = meaning.Yes
reply_of (Err why) = meaning.No (number_of why)
