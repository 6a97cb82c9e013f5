-- THE WHOLE: lines of bytes over six drives, as the code does it, step by step.
-- Assumes nothing.
use Rattle.std.specs.Prelude.{List, ℕ}
use Rattle.drives.specs.Machines.{Machine}
use Rattle.steps.specs.Steps.{machine_of}
use Rattle.steps.specs.Stacks.{stack_of}
use Rattle.clock.specs.Spelled.{line_code}
use Rattle.recorder.specs.Recording.{recorder_code}
use Rattle.lines.specs.Order.{only_time}
use Rattle.promise.specs.Promise.{Whole}

-- the machine of the code: the clock over the root record, asked and answered by lines, with a budget of 1,000 requests for each
abbrev pub house_of : (longest : ℕ) → Machine (List ℕ) (List ℕ)
house_of longest = machine_of (stack_of (line_code longest) recorder_code) 1000

-- THE TIME STANDS, from a line of bytes to six drives and back: `Whole` of what is built so far, which is telling the time.
abbrev pub TimeStands : Type 0
TimeStands = (longest : ℕ) → Whole only_time longest (house_of longest)
