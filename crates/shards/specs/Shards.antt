-- How the bytes of a row lie on six drives: eight stripes, each of which gives every drive a sector of its own.
-- Assumes nothing.
use Rattle.std.specs.Prelude.{ℕ, zero, suc, ◌+◌, ◌*◌, Bool, true, false, ◌&&◌, T, List, [], ◌∷◌, ◌++◌, length, take, drop, ◌==◌}
use Rattle.std.proofs.Math.Option.{Option, none, some}
use Rattle.drives.specs.Drives.{zeros, all_bytes}
use Rattle.field.specs.Stripe.{Held, held, encoded, decoded, piece_at, rebuilt}
use Rattle.stripes.specs.Coding.{Coding}

-- ROWS

abbrev pub is_row : List ℕ → Bool
is_row b = length b == 16384 && all_bytes b

-- 16,384 bytes
pub record Row : Type 0 where
  pub bytes : List ℕ
  pub row_fits : T (is_row bytes)

unfoldable pub zero_row : Row
unfolding zeros all_bytes
zero_row = record { bytes = zeros 16384; row_fits = tt }

abbrev pub when_else : {A : Type 0} (t : Bool) → (T t → A) → A → A
when_else true f a = f tt
when_else false f a = a

-- the row of these bytes, or one of zeros where they are no row
unfoldable pub row_of : List ℕ → Row
row_of b = when_else (is_row b) (λ h. record { bytes = b; row_fits = h }) zero_row

-- STRIPES: bytes 2048 k to 2048 k + 2047 of a row are stripe k, of four data pieces

abbrev pub data_piece : List ℕ → (stripe piece : ℕ) → List ℕ
data_piece b k j = take 512 (drop (2048 * k + 512 * j) b)

unfoldable pub data_pieces : List ℕ → (stripe : ℕ) → List (List ℕ)
data_pieces b k = data_piece b k 0 ∷ data_piece b k 1 ∷ data_piece b k 2 ∷ data_piece b k 3 ∷ []

-- pieces, one after the other
unfoldable pub in_one : List (List ℕ) → List ℕ
in_one [] = []
in_one (x ∷ xs) = x ++ in_one xs

-- the first n stripes, one after the other
unfoldable pub up_to : (stripe : ℕ → List (List ℕ)) → ℕ → List ℕ
up_to f zero = []
up_to f (suc n) = up_to f n ++ in_one (f n)

-- WHAT DRIVES GAVE

unfoldable pub before : (drive : ℕ) → Option (List ℕ) → List Held → List Held
before i none hs = hs
before i (some x) hs = held i x ∷ hs

-- what the drives below n gave, by rising numbers, before hs
unfoldable pub held_below : ((drive : ℕ) → Option (List ℕ)) → ℕ → List Held → List Held
held_below g zero hs = hs
held_below g (suc n) hs = held_below g n (before n (g n) hs)

abbrev pub held_of : ((drive : ℕ) → Option (List ℕ)) → List Held
held_of g = held_below g 6 []

-- THE CODING

abbrev pub shard : Row → (sector drive : ℕ) → List ℕ
shard b k i = piece_at (encoded (data_pieces b.bytes k)) i

abbrev pub join : (sector : ℕ → (drive : ℕ) → Option (List ℕ)) → Row
join g = row_of (up_to (λ k. decoded (held_of (g k))) 8)

abbrev pub fill : ((drive : ℕ) → Option (List ℕ)) → (drive : ℕ) → List ℕ
fill g i = rebuilt (held_of g) i

abbrev pub bytes : Coding
bytes = record { Row = Row; zero_row = zero_row; shard = shard; join = join; fill = fill }
