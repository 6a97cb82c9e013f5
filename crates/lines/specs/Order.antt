-- What a line is answered, in which order it is turned away, and what is built so far.
-- Assumes nothing.
use Rattle.std.specs.Prelude.{ℕ, Bool, true, false, cond, not, ◌&&◌, ◌||◌, List, length, drop, Some, None, Ok, Err, Option, Result, ◌==◌, nat_le, nat_lt, slice_index}
use Rattle.meaning.specs.Rooms.{Call, State, Out}
use Rattle.meaning.specs.Does.{does, no, is_tick, core, small}
use Rattle.lines.specs.Fields.{value}
use Rattle.lines.specs.Calls.{call_in}

-- what the answer to a line bears, whatever the length says
abbrev pub tag_of : List ℕ → ℕ
tag_of l = cond (nat_lt (length l) 8) 0 (value 4 (drop 4 l))

abbrev pub kind_of : List ℕ → Option ℕ
kind_of l = cond (nat_lt (length l) 9) None (Some (slice_index l 8))

-- what is built so far: of which kinds there is something, and which calls there are
pub record Built : Type 0 where
  pub kinds : ℕ → Bool
  pub calls : Call → Bool

abbrev pub nothing : Built
nothing = record { kinds = λ k. false; calls = λ c. false }

abbrev pub only_time : Built
only_time = record { kinds = λ k. (k == 14); calls = is_tick }

-- whole objects, no older versions shown
abbrev pub the_core : Built
the_core = record { kinds = λ k. (nat_le 1 k && nat_le k 6) || (k == 14); calls = core }

abbrev pub all : Built
all = record { kinds = λ k. nat_le 1 k && nat_le k 14; calls = λ c. true }

-- a line longer than the longest that there is memory for is no call, whatever it holds
abbrev pub call_within : (longest : ℕ) → List ℕ → Option Call
call_within longest l = cond (nat_lt longest (length l)) None (call_in l)

-- a kind of call of which nothing is built
abbrev pub lacks_kind : Built → Option ℕ → Bool
lacks_kind b None = false
lacks_kind b (Some k) = (nat_le 1 k && nat_le k 14) && not (b.kinds k)

abbrev pub lacks_call : Built → Option Call → Bool
lacks_call b None = false
lacks_call b (Some c) = not (b.calls c)

-- a line of this kind is heard before any time was told, and when numbers are used up
abbrev pub tells_time : Option ℕ → Bool
tells_time None = false
tells_time (Some k) = k == 14

abbrev pub or_no_call : Option Call → Result Call ℕ
or_no_call None = Err 1
or_no_call (Some c) = Ok c

-- the call, or the number of the refusal
abbrev pub heard : Built → (longest : ℕ) → List ℕ → (time next : ℕ) → Result Call ℕ
heard b longest l time next =
    cond (lacks_kind b (kind_of l)) (Err 12)
    (cond (lacks_call b (call_within longest l)) (Err 12)
    (cond (not (tells_time (kind_of l)) && time == 0) (Err 10)
    (cond (not (tells_time (kind_of l)) && not (small next)) (Err 8)
    (or_no_call (call_within longest l)))))

abbrev pub carried_out : Result Call ℕ → State → Out
carried_out (Ok c) s = does c s
carried_out (Err k) s = no k s

abbrev pub answer_to : Built → (longest : ℕ) → List ℕ → State → Out
answer_to b longest l s = carried_out (heard b longest l s.now s.next) s
