-- What a house may answer: as the meaning says, not built yet, or full.
-- Assumes nothing.
use Rattle.std.specs.Prelude.{ℕ, ◌+◌, ◌*◌, ◌<◌, Bool, T}
use Rattle.meaning.specs.Rooms.{State, Call, Reply, No, Full}
use Rattle.meaning.specs.Does.{does}
use Rattle.meaning.specs.Weights.{weight}

-- can: which calls are built; size: the sectors of a drive. Full is only for a call after which there is more, and only where twice
-- what there would be, and 8 MiB, is more than four of the six drives hold.
pub data Answers (can : Call → Bool) (size : ℕ) : Call → State → Reply → State → Type 0 where
  says_so : (c : Call) (s : State) → T (can c) → Answers can size c s (does c s).reply (does c s).state
  not_yet : (c : Call) (s : State) → (T (can c) → ⊥) → Answers can size c s (No 12) s
  too_full : (c : Call) (s : State) → T (can c) → weight s < weight (does c s).state → 2048 * size < 8388608 + 2 * weight (does c s).state → Answers can size c s Full s

-- the replies that turn a call away
pub data Refuses : Reply → Type 0 where
  no : (k : ℕ) → Refuses (No k)
  full : Refuses Full
