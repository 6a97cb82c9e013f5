-- What comes of a line.
-- Assumes nothing.
use Rattle.std.specs.Prelude.{ℕ, true, List, Option}
use Rattle.drives.specs.Drives.{Drives}
use Rattle.drives.specs.Machines.{Machine}
use Rattle.steps.specs.Steps.{Held, Stepping, machine_of}
use Rattle.steps.specs.Stacks.{stack_of}
use Rattle.steps.specs.declared.Doing.TheVariants.{Opens}
use Rattle.steps.specs.declared.Stack.{Stack}
use Rattle.driver.specs.Loops.{held_by, Leaves}
use Rattle.register.specs.declared.Call.{Call}
use Rattle.register.specs.declared.Reply.{Reply}
use Rattle.clock.specs.declared.Clock.{Clock}
use Rattle.clock.specs.declared.Phase.TheVariants.{Rising}
use Rattle.clock.specs.Spelled.{line_code}
use Rattle.fills.specs.Fills.{Wrote}
use Rattle.front.specs.declared.House.{House}

-- what a house holds, where `view` says what state the machine below its clock is in
abbrev pub held_in : {A L : Type 0} → (A → L) → House A → Held (Stack Clock L)
held_in view h = held_by (λ s. record { upper = s.upper; lower = view s.lower; doing = s.doing }) h.running

-- the clock over a machine, as both are before they come up
abbrev pub closed_over : {A : Type 0} → A → Stack Clock A
closed_over lower = record { upper = record { time = 0; tag = 0; phase = Rising }; lower = lower; doing = Opens }

-- the machine of the code of a house: the clock over the steps s, asked and answered by lines, with 1,000 requests for each
abbrev pub house_over : {L : Type 0} → Stepping Call Reply L → ℕ → Machine (List ℕ) (List ℕ)
house_over s longest = machine_of (stack_of (line_code longest) s) 1000

-- the bytes of an answer are laid at the front of the buffer, if there is room for them; else nothing is
abbrev pub Answered : List ℕ → List ℕ → Option ℕ → List ℕ → Type 0
Answered bytes before r after = Wrote true bytes before r after

-- A line was answered by the steps of the clock over a machine s: run as a program from what was held and on the drives d, it answers with bytes that were laid in the buffer.
pub record LineDone {L : Type 0} (s : Stepping Call Reply L) (longest : ℕ) (line : List ℕ) (h : Held (Stack Clock L)) (d : Drives) (before : List ℕ) (r : Option ℕ) (after : List ℕ) (g : Held (Stack Clock L)) (e : Drives) : Type 0 where
  pub bytes : List ℕ
  pub written : Answered bytes before r after
  pub ran : Leaves ((house_over s longest).does line h) d (record { reply = bytes; mem = g }) e
