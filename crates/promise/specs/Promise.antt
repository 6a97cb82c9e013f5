-- THE PROMISE OF THE WHOLE, made of lines of bytes.
-- Assumes nothing.
use Rattle.std.specs.Prelude.{◌≡◌, ℕ, ◌+◌, ◌*◌, ◌<◌, List, Ok}
use Rattle.drives.specs.Machines.{Machine, Judge, atomic, Keeps, Within}
use Rattle.meaning.specs.Rooms.{State, blank, Call, Reply, Full}
use Rattle.meaning.specs.Does.{does, down}
use Rattle.meaning.specs.Weights.{weight}
use Rattle.lines.specs.Calls.{line_of}
use Rattle.lines.specs.Replies.{reply_bytes}
use Rattle.lines.specs.Order.{Built, the_core, tag_of, heard, answer_to}

-- the answer to a line bears its tag
unfoldable pub reply_to : List ℕ → Reply → List ℕ
reply_to l r = line_of (tag_of l) (reply_bytes r)

-- What may be answered to a line, for what is built so far, the longest line that memory is lent for, and drives of a size: as the meaning says,
-- or full, if the line is a call after which there would be more, and twice that and 8 MiB is more than four drives hold.
pub data Answers (b : Built) (longest size : ℕ) : List ℕ → State → List ℕ → State → Type 0 where
  says_so : (l : List ℕ) (s : State) → Answers b longest size l s (reply_to l (answer_to b longest l s).reply) (answer_to b longest l s).state
  too_full : (l : List ℕ) (s : State) (c : Call) → heard b longest l s.now s.next ≡ Ok c → weight s < weight (does c s).state → 2048 * size < 8388608 + 2 * weight (does c s).state →
      Answers b longest size l s (reply_to l Full) s

-- all that was answered stands; a call cut short was done or not
abbrev pub house : Built → (longest : ℕ) → (size : ℕ) → Judge (List ℕ) (List ℕ)
house b longest size = atomic State blank (Answers b longest size) down

-- THE MAIN PROMISE. Whatever lines come, whatever time is told, wherever power fails, whichever two of six drives are lost, lost anew when all was whole
-- again, and replaced: everything that is ever seen is as the meaning says; mending comes to an end, in short stretches; drives are used fairly.
-- What is built grows from landing to landing; the promise is always this one.
abbrev pub Whole : Built → (longest : ℕ) → Machine (List ℕ) (List ℕ) → Type 0
Whole b longest e = Keeps (house b longest) e × Within e

abbrev pub CoreWhole : (longest : ℕ) → Machine (List ℕ) (List ℕ) → Type 0
CoreWhole longest e = Whole the_core longest e
