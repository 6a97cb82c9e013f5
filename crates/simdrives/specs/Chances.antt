-- How a cut chooses what is left of each sector.
-- Assumes nothing.
use Rattle.std.specs.Prelude.{ℕ, ◌+◌, ◌*◌, ◌/◌, ◌%◌, ◌^◌, cond, ◌==◌, bit_xor}
use Rattle.simdrives.specs.declared.choices.Choice.{Choice}
use Rattle.simdrives.specs.declared.choices.Choice.TheVariants.{Old, Newest, Seed, Bits}

-- a number of eight bytes mixed with its own bits from k on, and multiplied
abbrev pub stirred : ℕ → ℕ → ℕ → ℕ
stirred k m x = bit_xor x (x / 2 ^ k) * m % 2 ^ 64

-- splitmix64: the state goes on by a fixed odd number, and what it gives is mixed by two products
abbrev pub onward : ℕ → ℕ
onward x = (x + 11400714819323198485) % 2 ^ 64

abbrev pub mixed_of : ℕ → ℕ
mixed_of x = let y = stirred 27 10723151780598845931 (stirred 30 13787848793156543929 x) in bit_xor y (y / 2 ^ 31)

-- of n writes to a sector, how many are undone
abbrev pub undoes : Choice → ℕ → ℕ
undoes Old n = n
undoes Newest n = 0
undoes (Seed x) n = mixed_of (onward x) % (n + 1)
undoes (Bits b) n = cond (b % 2 == 0) n 0

-- what the next sector is chosen by
abbrev pub chosen_next : Choice → Choice
chosen_next Old = Old
chosen_next Newest = Newest
chosen_next (Seed x) = Seed (onward x)
chosen_next (Bits b) = Bits (b / 2)
