-- What the clock's code is at its end, and that it is the plan to be read wherever it tells the time as that plan does.
-- Assumes nothing.
use Rattle.std.specs.Prelude.{◌≡◌, ℕ, Bool, cond, ◌&&◌, None, Ok, Err, Result, nat_lt, refl}
use Rattle.std.proofs.Common.{subst}
use Rattle.steps.specs.Stacks.{Plans, Planned}
use Rattle.meaning.specs.Does.{small, later}
use Rattle.clock.specs.declared.Phase.TheVariants.{Begun}
use Rattle.clock.specs.declared.Clock.{Clock}
use Rattle.lines.specs.declared.order.Refusal.{Refusal}
use Rattle.lines.specs.declared.order.Refusal.TheVariants.{Wrong}
use Rattle.clock.specs.Clock.{Spoken, tells_if, answers_to, keeps, turn_in, clock_code, spoken, ClockSame}

-- what is left at the end: the reply and the time
abbrev pub Ends : Clock → Spoken → Type 0
Ends v x = (clock_code.says v ≡ x.reply) × (v.time ≡ x.mem)

-- A time that is told (b: it is in range) is answered as planned.
abbrev pub TellsSo : Bool → (tag t time : ℕ) → Type 0
TellsSo b tag t time =
    Plans clock_code.turns Ends 2
    (keeps (cond b (Ok (later t time)) (Err Wrong)) time tag)
    (tells_if b tag t time)

abbrev pub TellsAsPlanned : Type 0
TellsAsPlanned = (b : Bool) (tag t time : ℕ) → TellsSo b tag t time

pub answers : TellsAsPlanned → (h : Result ℕ Refusal) (tag time : ℕ) → Plans clock_code.turns Ends 2 (turn_in (Begun h) time tag None) (answers_to h tag time)
answers tells (Err why) tag time = Plans.ends (refl, refl)
answers tells (Ok t) tag time = tells (small t && nat_lt 0 t) tag t time

pub planned_so : TellsAsPlanned → (size : ℕ) → Planned clock_code 2 size spoken (ClockSame size)
planned_so tells size =
    record {
      rises = Plans.calls (λ r. Plans.ends refl);
      answers = λ c u m s. subst (λ (n : ℕ). Plans clock_code.turns Ends 2 (turn_in (Begun c.heard) u.time c.tag None) (answers_to c.heard c.tag n)) s (answers tells c.heard c.tag u.time);
    }
