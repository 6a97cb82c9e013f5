-- Decimal numbers of a script.
-- Assumes nothing.
use Rattle.std.specs.Prelude.{ℕ, cond, List, length, drop, None, Option, nat_lt}
use Rattle.console.specs.Hex.{number_in}
use Rattle.console.specs.Commands.{begins_with}

-- at most twenty digits; what is more than eight bytes hold counts as the largest that they do
abbrev pub number_of : List ℕ → Option ℕ
number_of ds = cond (nat_lt 20 (length ds)) None (number_in ds)

-- the number that follows a word
abbrev pub number_after : List ℕ → List ℕ → Option ℕ
number_after word t = cond (begins_with word t) (number_of (drop (length word) t)) None
