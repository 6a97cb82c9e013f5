-- The field of 256 elements: polynomials over bits, of degree below 8, modulo x^8 + x^4 + x^3 + x^2 + 1. An element is a byte, whose bit k is the
-- coefficient of x^k; the sum of two is their `bit_xor`, and 2, which is x, generates every element but 0.
-- Assumes nothing.
use Rattle.std.specs.Prelude.{ℕ, zero, suc, ◌-◌, ◌*◌, ◌/◌, ◌%◌, ◌^◌, List, [], ◌∷◌}
use Rattle.std.specs.Int.Bits.{bit_xor}

-- 2 times x; 29 is x^8 as a sum of lower powers
unfoldable pub double : ℕ → ℕ
double x = bit_xor (x * 2 % 256) (29 * (x / 128))

-- x times the element that the lowest n bits of c are
unfoldable pub by : ℕ → ℕ → ℕ → ℕ
by zero c x = 0
by (suc n) c x = bit_xor (double (by n (c / 2) x)) (c % 2 * x)

-- c times x
unfoldable pub times : ℕ → ℕ → ℕ
times c x = by 8 c x

-- four coefficients
pub record Row : Type 0 where
  pub a : ℕ
  pub b : ℕ
  pub c : ℕ
  pub d : ℕ

abbrev pub row : ℕ → ℕ → ℕ → ℕ → Row
row p q r s = record { a = p; b = q; c = r; d = s }

-- the sum of four elements, each times its coefficient
unfoldable pub dot : Row → ℕ → ℕ → ℕ → ℕ → ℕ
dot m x y z w = bit_xor (times m.a x) (bit_xor (times m.b y) (bit_xor (times m.c z) (times m.d w)))

-- the sum of four products, by the highest k bits of the coefficients
abbrev pub partial : Row → ℕ → ℕ → ℕ → ℕ → ℕ → ℕ
partial m k w x y z = bit_xor (by k (m.a / 2 ^ (8 - k)) w) (bit_xor (by k (m.b / 2 ^ (8 - k)) x) (bit_xor (by k (m.c / 2 ^ (8 - k)) y) (by k (m.d / 2 ^ (8 - k)) z)))

abbrev pub first : List ℕ → ℕ
first [] = 0
first (x ∷ xs) = x

abbrev pub rest : List ℕ → List ℕ
rest [] = []
rest (x ∷ xs) = xs

-- f of four lists, place by place
unfoldable pub map4 : (ℕ → ℕ → ℕ → ℕ → ℕ) → List ℕ → List ℕ → List ℕ → List ℕ → List ℕ
map4 f [] ys zs ws = []
map4 f (x ∷ xs) ys zs ws = f x (first ys) (first zs) (first ws) ∷ map4 f xs (rest ys) (rest zs) (rest ws)
