-- Hexadecimal, both ways, and decimal numbers.
-- Assumes nothing.
use Rattle.std.specs.Prelude.{◌≡◌, ℕ, ◌+◌, ◌-◌, ◌*◌, ◌/◌, ◌%◌, min, Bool, cond, ◌&&◌, List, [], ◌∷◌, ◌++◌, map, length, take, drop, ◌==◌, nat_le, nat_lt, slice_index, Option, Some, None, unwrap_or}
use Rattle.std.specs.List.{range_with_len, list_all}
use Rattle.std.specs.Char.{is_ascii_digit, is_ascii_hexdigit}

abbrev pub between : ℕ → ℕ → ℕ → Bool
between low high d = nat_le low d && nat_le d high

abbrev pub digit_value : ℕ → ℕ
digit_value d = cond (between 48 57 d) (d - 48) (cond (between 97 102 d) (d - 87) (cond (between 65 70 d) (d - 55) 0))

-- byte k is made of the digits 2k and 2k + 1
abbrev pub byte_at : List ℕ → ℕ → ℕ
byte_at ds k = 16 * digit_value (slice_index ds (2 * k)) + digit_value (slice_index ds (2 * k + 1))

abbrev pub unhexed : List ℕ → List ℕ
unhexed ds = map (byte_at ds) (range_with_len 0 (length ds / 2))

-- pairs of digits, and nothing else
abbrev pub is_hex : List ℕ → Bool
is_hex ds = length ds % 2 == 0 && list_all is_ascii_hexdigit ds

-- the line of bytes that digits stand for: the empty one, where they are no pairs of digits
abbrev pub line_of : List ℕ → List ℕ
line_of ds = cond (is_hex ds) (unhexed ds) []

-- a line of bytes is laid at the front of a buffer, as far as there is room
pub record Lays (bs before after : List ℕ) (n : ℕ) : Type 0 where
  pub count : n ≡ min (length bs) (length before)
  pub laid : after ≡ take n bs ++ drop n before

-- the digit of a number below 16, in lower case
abbrev pub digit : ℕ → ℕ
digit n = cond (nat_lt n 10) (48 + n) (87 + n)

unfoldable pub hexed : List ℕ → List ℕ
hexed [] = []
hexed (b ∷ bs) = digit (b / 16) ∷ digit (b % 16) ∷ hexed bs

-- DECIMAL

-- the value of digits that follow a number
unfoldable pub value_from : ℕ → List ℕ → ℕ
value_from n [] = n
value_from n (d ∷ ds) = value_from (10 * n + (d - 48)) ds

abbrev pub most : ℕ
most = 18446744073709551615

-- a number of eight bytes after the number so far; what is more than eight bytes hold counts as the largest that they do
abbrev pub read_from : ℕ → List ℕ → Option ℕ
read_from n ds = cond (list_all is_ascii_digit ds) (Some (min (value_from n ds) most)) None

abbrev pub number_in : List ℕ → Option ℕ
number_in ds = cond (length ds == 0) None (read_from 0 ds)

-- what is no number counts as the largest, which is out of range for a time
abbrev pub number_of : List ℕ → ℕ
number_of ds = unwrap_or (number_in ds) most
