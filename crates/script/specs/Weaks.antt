-- The weak drives, as a list of which are.
-- Assumes nothing.
use Rattle.std.specs.Prelude.{ℕ, ◌+◌, Bool, true, cond, ◌&&◌, List, [], ◌∷◌, length, nat_lt, slice_set}
use Rattle.drives.specs.Machines.{without}

-- the numbers of those that are weak, where the first of the list has the number i
unfoldable pub weak_from : ℕ → List Bool → List ℕ
weak_from i [] = []
weak_from i (b ∷ bs) = cond b (i ∷ weak_from (i + 1) bs) (weak_from (i + 1) bs)

-- a drive may be lost while fewer than two others are weak
abbrev pub may_lose : ℕ → List Bool → Bool
may_lose i ws = nat_lt i 6 && nat_lt (length (without i (weak_from 0 ws))) 2

abbrev pub lost_of : ℕ → List Bool → List Bool
lost_of i ws = cond (nat_lt i 6) (slice_set ws i true) ws
