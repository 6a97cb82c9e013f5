-- The time stands: the clock over the root record, as the code does it.
-- Assumes nothing.
use mathlib.Core.List.{List}
use Prim.Native.Nat.{ℕ}
use native.Mathlib.Omega.{arith}
use Rattle.drives.specs.Machines.{Machine, Keeps, Within}
use Rattle.drives.specs.Layers.{over}
use Rattle.drives.proofs.Layers.{layers_compose}
use Rattle.drives.proofs.Within.{layers_stay_within}
use Rattle.steps.specs.Stacks.{stack_of, Both, enough}
use Rattle.steps.specs.Steps.{Held}
use Rattle.steps.specs.Ties.{Tied}
use Rattle.steps.specs.declared.Stack.{Stack}
use Rattle.steps.proofs.Mirror.{code_keeps, code_within}
use Rattle.steps.specs.Stacked.{stacked}
use Rattle.register.specs.declared.Call.{Call}
use Rattle.register.specs.declared.Reply.{Reply}
use Rattle.register.specs.Register.{register}
use Rattle.clock.specs.declared.Clock.{Clock}
use Rattle.clock.specs.Clock.{ClockSame}
use Rattle.clock.specs.Spelled.{clock, line_code}
use Rattle.clock.proofs.Planned.{lines_planned}
use Rattle.clock.proofs.Standing.{clock_keeps}
use Rattle.recorder.specs.declared.Recorder.{Recorder}
use Rattle.recorder.specs.Recording.{recorder_code, recorded, RecorderSame}
use Rattle.recorder.specs.Tied.{recorder_tied}
use Rattle.recorder.proofs.Stands.{recorded_keeps, recorded_within}
use Rattle.lines.specs.Order.{only_time}
use Rattle.promise.specs.Promise.{house}
use Rattle.whole.specs.Wholes.{TimeStands}

module _ (longest : ℕ) where
  -- the machine to be read
  abbrev readable : Machine (List ℕ) (List ℕ)
  readable = over recorded (clock longest)

  abbrev Same : ℕ → Held (Stack Clock Recorder) → readable.Mem → Type 0
  Same size = Both (ClockSame size) (RecorderSame size)

  tied : (size : ℕ) → Tied (stack_of (line_code longest) recorder_code) (enough 2 21) size readable (Same size)
  tied size = stacked (lines_planned longest size) (recorder_tied size)

  keeps : Keeps (house only_time longest) readable
  keeps = layers_compose Call Reply (List ℕ) (List ℕ) register (house only_time longest) recorded (clock longest) recorded_keeps (clock_keeps longest)

  within : Within readable
  within = layers_stay_within Call Reply (List ℕ) (List ℕ) recorded (clock longest) recorded_within

pub time_stands : TimeStands
time_stands longest = (
  code_keeps {S = Same longest} (λ size lo hi. tied longest size) (house only_time longest) (keeps longest) 1000 (omega arith),
  code_within {S = Same longest} (λ size lo hi. tied longest size) (within longest) 1000 (omega arith),
)
