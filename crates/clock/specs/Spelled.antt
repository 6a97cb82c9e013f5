-- The clock as lines of bytes see it: what is heard of a line, and the line that answers it.
-- Assumes nothing.
use Rattle.std.specs.Prelude.{ℕ, cond, List, Ok, Err, Result, ◌==◌}
use Rattle.drives.specs.Layers.{Plan, gives, asks, Layer, KeepsAbove}
use Rattle.steps.specs.Stacks.{Planning}
use Rattle.register.specs.declared.Call.{Call}
use Rattle.register.specs.declared.Reply.{Reply}
use Rattle.register.specs.Register.{register}
use Rattle.meaning.specs.Rooms as meaning
use Rattle.lines.specs.declared.order.Refusal.{Refusal}
use Rattle.lines.specs.declared.order.Refusal.TheVariants.{Wrong, Missing, Exists, Unexpected, NotEmpty, Held, Gap, UsedUp, NoTime, NotBuilt}
use Rattle.lines.specs.Order.{only_time, heard, tag_of}
use Rattle.lines.specs.Calls.{line_of}
use Rattle.lines.specs.Turns.{reply_of}
use Rattle.lines.specs.Replies.{reply_bytes}
use Rattle.promise.specs.Promise.{house}
use Rattle.clock.specs.declared.Asked.{Asked}
use Rattle.clock.specs.declared.Told.{Told}
use Rattle.clock.specs.declared.Clock.{Clock}
use Rattle.clock.specs.Clock.{Spoken, spoken, clock_code}

-- the refusal that a number stands for
abbrev pub refusal_of : ℕ → Refusal
refusal_of k =
    cond (k == 12) NotBuilt (cond (k == 10) NoTime (cond (k == 8) UsedUp (cond (k == 7) Gap (cond (k == 6) Held
    (cond (k == 5) NotEmpty (cond (k == 4) Unexpected (cond (k == 3) Exists (cond (k == 2) Missing Wrong))))))))

-- only telling the time is built, so nothing else is heard
abbrev pub heard_call : meaning.Call → Result ℕ Refusal
heard_call (meaning.Tick t) = Ok t
heard_call c = Err NotBuilt

abbrev pub heard_as : Result meaning.Call ℕ → Result ℕ Refusal
heard_as (Err k) = Err (refusal_of k)
heard_as (Ok c) = heard_call c

-- no number was given yet, so the next is 1
abbrev pub asked_in : (longest : ℕ) → List ℕ → (time : ℕ) → Asked
asked_in longest l time = record { tag = tag_of l; heard = heard_as (heard only_time longest l time 1) }

unfoldable pub told_bytes : Told → List ℕ
told_bytes x = line_of x.tag (reply_bytes (reply_of x.said))

abbrev pub Written : Type 0
Written = record { reply : List ℕ; mem : ℕ }

unfoldable pub retold : Plan Call Reply Spoken → Plan Call Reply Written
retold (gives x) = gives (record { reply = told_bytes x.reply; mem = x.mem })
retold (asks c k) = asks c (λ r. retold (k r))

abbrev pub clock : (longest : ℕ) → Layer Call Reply (List ℕ) (List ℕ)
clock longest =
    record {
      Mem = ℕ;
      comes_up = spoken.comes_up;
      answers = λ l m. retold (spoken.answers (asked_in longest l m) m);
    }

-- the same code, asked and answered by lines
abbrev pub line_code : (longest : ℕ) → Planning Call Reply (List ℕ) (List ℕ) Clock
line_code longest =
    record {
      turns = clock_code.turns;
      rising = clock_code.rising;
      starts = λ l u. clock_code.starts (asked_in longest l u.time) u;
      says = λ u. told_bytes (clock_code.says u);
    }

-- THE TIME STANDS, over whatever keeps a payload.
abbrev pub ClockKeeps : Type 0
ClockKeeps = (longest : ℕ) → KeepsAbove register (house only_time longest) (clock longest)
