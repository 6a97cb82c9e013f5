-- The fields that a line is made of, high byte first: the bytes of each, and what is read off the front of some bytes.
-- Assumes nothing.
use Rattle.std.specs.Prelude.{ℕ, zero, suc, ◌+◌, ◌*◌, ◌/◌, ◌%◌, ◌^◌, cond, List, [], ◌∷◌, ◌++◌, length, take, drop, Some, None, Option, nat_lt, slice_index}
use Rattle.std.specs.Borrow.{Bor}
use Rattle.std.specs.Option.{option_map}

-- what stands at the front, and the bytes after it
pub record Took (A : Type 0) : Type 0 where
  pub value : A
  pub rest : List ℕ

-- go on behind a field, unless it isn't there
infixr 5 ◌then◌
abbrev pub ◌then◌ : {A B : Type 0} → Option (Took A) → (A → List ℕ → Option B) → Option B
◌then◌ None f = None
◌then◌ (Some t) f = f t.value t.rest

-- a number in k bytes
abbrev pub number : (k n : ℕ) → List ℕ
number zero n = []
number (suc k) n = (n / 256 ^ k) ∷ number k (n % 256 ^ k)

-- the number that the first k bytes write
abbrev pub value : (k : ℕ) → List ℕ → ℕ
value zero l = 0
value (suc k) l = slice_index l 0 * 256 ^ k + value k (drop 1 l)

abbrev pub number_in : (k : ℕ) → List ℕ → Option (Took ℕ)
number_in k l = cond (nat_lt (length l) k) None (Some (record { value = value k l; rest = drop k l }))

-- the next n bytes
abbrev pub bytes_in : (n : ℕ) → List ℕ → Option (Took (List ℕ))
bytes_in n l = cond (nat_lt (length l) n) None (Some (record { value = take n l; rest = drop n l }))

-- bytes after their count, which has k bytes: a name has a count of one byte
abbrev pub counted : (k : ℕ) → List ℕ → List ℕ
counted k bs = number k (length bs) ++ bs

abbrev pub counted_in : (k : ℕ) → List ℕ → Option (Took (List ℕ))
counted_in k l = number_in k l then (λ n rest. bytes_in n rest)

-- the same of what code read, whose bytes are parts of the line
abbrev pub read_as : {A B : Type 0} → (A → B) → Option (A × Bor (List ℕ)) → Option (Took B)
read_as means o = option_map (λ p. record { value = means p.0; rest = p.1.now }) o

abbrev pub bytes_read : Option (Bor (List ℕ) × Bor (List ℕ)) → Option (Took (List ℕ))
bytes_read o = read_as (λ bs. bs.now) o
