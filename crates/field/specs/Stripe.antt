-- A stripe: four data pieces, P, which is their sum, and Q, their sum weighted by powers of 2. What each of the six is made by, what any four of
-- them are put together by, and a piece that is made anew of four others.
-- Assumes nothing.
use Rattle.std.specs.Prelude.{ℕ, zero, suc, ◌+◌, ◌*◌, min, max, ◌≡◌, cond, List, [], ◌∷◌, eqb, leb, T, length, replicate}
use Rattle.field.specs.Code.{Code, lengths, Among}
use Rattle.field.specs.Field.{Row, row, dot, map4}

-- the row of the generator matrix by which the piece at a place is made of the data
abbrev pub generator : ℕ → Row
generator zero = row 1 0 0 0
generator (suc zero) = row 0 1 0 0
generator (suc (suc zero)) = row 0 0 1 0
generator (suc (suc (suc zero))) = row 0 0 0 1
generator (suc (suc (suc (suc zero)))) = row 1 1 1 1
generator (suc (suc (suc (suc (suc n))))) = row 1 2 4 8

abbrev pub parity_p : List ℕ → List ℕ → List ℕ → List ℕ → List ℕ
parity_p x y z w = map4 (dot (generator 4)) x y z w

abbrev pub parity_q : List ℕ → List ℕ → List ℕ → List ℕ → List ℕ
parity_q x y z w = map4 (dot (generator 5)) x y z w

-- the six pieces of four data pieces
unfoldable pub encoded : List (List ℕ) → List (List ℕ)
encoded [] = []
encoded (x ∷ []) = []
encoded (x ∷ y ∷ []) = []
encoded (x ∷ y ∷ z ∷ []) = []
encoded (x ∷ y ∷ z ∷ w ∷ []) = x ∷ y ∷ z ∷ w ∷ parity_p x y z w ∷ parity_q x y z w ∷ []
encoded (x ∷ y ∷ z ∷ w ∷ v ∷ vs) = []

-- a matrix: the row of each data piece
pub record Rows : Type 0 where
  pub w : Row
  pub x : Row
  pub y : Row
  pub z : Row

-- one number for four places
abbrev pub key_of : ℕ → ℕ → ℕ → ℕ → ℕ
key_of p q r s = p * 216 + q * 36 + r * 6 + s

-- the inverse of the generator's rows of four places, for each of the fifteen choices; the last stands for 2, 3, 4, 5
unfoldable pub inverse : ℕ → Rows
inverse key =
    cond (eqb key 51) (record { w = row 1 0 0 0; x = row 0 1 0 0; y = row 0 0 1 0; z = row 0 0 0 1 }) (
    cond (eqb key 52) (record { w = row 1 0 0 0; x = row 0 1 0 0; y = row 0 0 1 0; z = row 1 1 1 1 }) (
    cond (eqb key 53) (record { w = row 1 0 0 0; x = row 0 1 0 0; y = row 0 0 1 0; z = row 173 71 142 173 }) (
    cond (eqb key 58) (record { w = row 1 0 0 0; x = row 0 1 0 0; y = row 1 1 1 1; z = row 0 0 1 0 }) (
    cond (eqb key 59) (record { w = row 1 0 0 0; x = row 0 1 0 0; y = row 71 142 2 71; z = row 0 0 1 0 }) (
    cond (eqb key 65) (record { w = row 1 0 0 0; x = row 0 1 0 0; y = row 200 143 245 61; z = row 201 142 244 61 }) (
    cond (eqb key 94) (record { w = row 1 0 0 0; x = row 1 1 1 1; y = row 0 1 0 0; z = row 0 0 1 0 }) (
    cond (eqb key 95) (record { w = row 1 0 0 0; x = row 142 2 4 142; y = row 0 1 0 0; z = row 0 0 1 0 }) (
    cond (eqb key 101) (record { w = row 1 0 0 0; x = row 123 245 166 221; y = row 0 1 0 0; z = row 122 244 167 221 }) (
    cond (eqb key 137) (record { w = row 1 0 0 0; x = row 143 2 245 122; y = row 142 3 244 122; z = row 0 1 0 0 }) (
    cond (eqb key 310) (record { w = row 1 1 1 1; x = row 1 0 0 0; y = row 0 1 0 0; z = row 0 0 1 0 }) (
    cond (eqb key 311) (record { w = row 2 4 8 1; x = row 1 0 0 0; y = row 0 1 0 0; z = row 0 0 1 0 }) (
    cond (eqb key 317) (record { w = row 187 210 156 157; x = row 1 0 0 0; y = row 0 1 0 0; z = row 186 211 157 157 }) (
    cond (eqb key 353) (record { w = row 245 247 166 167; x = row 1 0 0 0; y = row 244 246 167 167; z = row 0 1 0 0 }) (
    record { w = row 2 6 245 244; x = row 3 7 244 244; y = row 1 0 0 0; z = row 0 1 0 0 }))))))))))))))

-- a piece and its place
abbrev pub Held : Type 0
Held = record { place : ℕ; bytes : List ℕ }

abbrev pub held : ℕ → List ℕ → Held
held p x = record { place = p; bytes = x }

-- four held pieces
abbrev pub four_held : ℕ → ℕ → ℕ → ℕ → List ℕ → List ℕ → List ℕ → List ℕ → List Held
four_held p q r s x y z w = held p x ∷ held q y ∷ held r z ∷ held s w ∷ []

abbrev pub inverted : Rows → List ℕ → List ℕ → List ℕ → List ℕ → List (List ℕ)
inverted m x y z w = map4 (dot m.w) x y z w ∷ map4 (dot m.x) x y z w ∷ map4 (dot m.y) x y z w ∷ map4 (dot m.z) x y z w ∷ []

-- the four data pieces of four held ones
unfoldable pub decoded : List Held → List (List ℕ)
decoded [] = []
decoded (x ∷ []) = []
decoded (x ∷ y ∷ []) = []
decoded (x ∷ y ∷ z ∷ []) = []
decoded (x ∷ y ∷ z ∷ w ∷ []) = inverted (inverse (key_of x.place y.place z.place w.place)) x.bytes y.bytes z.bytes w.bytes
decoded (x ∷ y ∷ z ∷ w ∷ v ∷ vs) = []

abbrev pub four_of_six : Code
four_of_six = record { pieces = encoded; back = decoded }

-- the piece at a place
abbrev pub piece_at : List (List ℕ) → ℕ → List ℕ
piece_at [] p = []
piece_at (x ∷ xs) zero = x
piece_at (x ∷ xs) (suc p) = piece_at xs p

-- the piece at a place, made anew: encoded of what the held ones give back
abbrev pub rebuilt : List Held → ℕ → List ℕ
rebuilt hs t = piece_at (encoded (decoded hs)) t

-- the row of the product of a row and a matrix
abbrev pub row_by : Row → Rows → Row
row_by g m = row (dot g m.w.a m.x.a m.y.a m.z.a) (dot g m.w.b m.x.b m.y.b m.z.b) (dot g m.w.c m.x.c m.y.c m.z.c) (dot g m.w.d m.x.d m.y.d m.z.d)

-- the coefficients by which four held pieces give the one at a place
abbrev pub row_for : ℕ → ℕ → Row
row_for key zero = (inverse key).w
row_for key (suc zero) = (inverse key).x
row_for key (suc (suc zero)) = (inverse key).y
row_for key (suc (suc (suc zero))) = (inverse key).z
row_for key (suc (suc (suc (suc zero)))) = row_by (generator 4) (inverse key)
row_for key (suc (suc (suc (suc (suc n))))) = row_by (generator 5) (inverse key)

-- the k-th place of those but i and j, where i is below j
abbrev pub skip : ℕ → ℕ → ℕ → ℕ
skip i j k = let a = cond (leb i k) (k + 1) k in cond (leb j a) (a + 1) a

-- the number of the four places but t and o
abbrev pub key_but : ℕ → ℕ → ℕ
key_but t o = key_of (skip (min t o) (max t o) 0) (skip (min t o) (max t o) 1) (skip (min t o) (max t o) 2) (skip (min t o) (max t o) 3)

-- the coefficients by which the other four give the piece at t, where it and the one at o are lost
unfoldable pub lost_row : ℕ → ℕ → Row
lost_row t o = row_for (key_but t o) t

-- a piece made anew is the one that encoding gave
abbrev pub RebuildsSame : Type 0
RebuildsSame =
    (n : ℕ) (data' : List (List ℕ)) → length data' ≡ 4 → T (lengths n data') →
    (hs : List Held) → length hs ≡ 4 → Among (encoded data') 0 hs → (t : ℕ) → rebuilt hs t ≡ piece_at (encoded data') t

abbrev pub zeros : ℕ → List ℕ
zeros n = replicate n 0

abbrev pub ZerosStay : Type 0
ZerosStay = (n : ℕ) → encoded (zeros n ∷ zeros n ∷ zeros n ∷ zeros n ∷ []) ≡ zeros n ∷ zeros n ∷ zeros n ∷ zeros n ∷ zeros n ∷ zeros n ∷ []
