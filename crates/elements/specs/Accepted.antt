-- What is accepted: pieces of one length, and four places that rise.
-- Assumes nothing.
use Rattle.std.specs.Prelude.{ℕ, Bool, true, ◌&&◌, List, [], ◌∷◌, length, ◌==◌, nat_lt}

-- each list has n elements
abbrev pub all_of : ℕ → List (List ℕ) → Bool
all_of n [] = true
all_of n (x ∷ xs) = length x == n && all_of n xs

-- four of the six places
abbrev pub rising : ℕ → ℕ → ℕ → ℕ → Bool
rising p q r s = nat_lt p q && nat_lt q r && nat_lt r s && nat_lt s 6
