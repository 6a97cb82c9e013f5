-- The clock's code is the plan to be read; and so it is where it is asked and answered by lines.
-- Assumes nothing.
use Rattle.std.specs.Prelude.{◌≡◌, ℕ, true, false, refl}
use Rattle.std.proofs.Common.{ap}
use Rattle.drives.specs.Layers.{Plan}
use Rattle.steps.specs.Stacks.{Asked as Wants, Plans, Planned}
use Rattle.register.specs.declared.Call.{Call}
use Rattle.register.specs.declared.Reply.{Reply}
use Rattle.lines.specs.Order.{tag_of}
use Rattle.clock.specs.declared.Clock.{Clock}
use Rattle.clock.specs.Clock.{Spoken, clock_code, spoken, ClockSame}
use Rattle.clock.specs.Spelled.{asked_in, Written, told_bytes, retold, clock, line_code}
use Rattle.clock.specs.Planned.{Ends, TellsAsPlanned, answers, planned_so}

tells : TellsAsPlanned
tells true tag t time = Plans.calls (λ r. Plans.ends (refl, refl))
tells false tag t time = Plans.ends (refl, refl)

pub clock_planned : (size : ℕ) → Planned clock_code 2 size spoken (ClockSame size)
clock_planned = planned_so tells

abbrev EndsWritten : Clock → Written → Type 0
EndsWritten v x = (told_bytes (clock_code.says v) ≡ x.reply) × (v.time ≡ x.mem)

written : {n : ℕ} {y : Wants Clock Call} {q : Plan Call Reply Spoken} → Plans clock_code.turns Ends n y q → Plans clock_code.turns EndsWritten n y (retold q)
unfolding retold
written (Plans.ends (e, t)) = Plans.ends (ap told_bytes e, t)
written (Plans.calls k) = Plans.calls (λ r. written (k r))

pub lines_planned : (longest size : ℕ) → Planned (line_code longest) 2 size (clock longest) (ClockSame size)
lines_planned longest size =
    record {
      rises = (clock_planned size).rises;
      answers = λ l u m s. rw (← s) (written (answers tells (asked_in longest l u.time).heard (tag_of l) u.time));
    }
