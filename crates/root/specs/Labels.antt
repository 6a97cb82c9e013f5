-- Labels as bytes, for payloads of 480 bytes: a magic number, the version of the format, the kind of label, the payload; all else is zeros.
-- Assumes nothing.
use Rattle.std.specs.Prelude.{ℕ, Bool, true, false, cond, ◌&&◌, T, List, [], ◌∷◌, ◌++◌, length, take, drop, ◌==◌}
use Rattle.std.proofs.Math.Option.{Option, none, some, map}
use Rattle.std.specs.Str.{bytes_eq}
use Rattle.drives.specs.Drives.{zeros, all_bytes}
use Rattle.root.specs.Root.{Label, missing, blank, rebuilding, has, empty, committed, Codec, Lawful, RootStands}

abbrev pub fits_block : List ℕ → Bool
fits_block b = length b == 480 && all_bytes b

-- 480 bytes
pub record Block : Type 0 where
  pub bytes : List ℕ
  pub is_block : T (fits_block bytes)

abbrev pub when : {A : Type 0} (t : Bool) → (T t → A) → Option A
when true f = some (f tt)
when false f = none

unfoldable pub block_of : List ℕ → Option Block
block_of b = when (fits_block b) (λ h. record { bytes = b; is_block = h })

-- "luvdjast" in ASCII
abbrev pub magic : List ℕ
magic = 108 ∷ 117 ∷ 118 ∷ 100 ∷ 106 ∷ 97 ∷ 115 ∷ 116 ∷ []

-- bytes 0 to 7, 8, 9, 10 to 15, 16 to 495, and 496 to 511
unfoldable pub sector : (kind : ℕ) → (payload : List ℕ) → List ℕ
sector kind payload = magic ++ (1 ∷ kind ∷ zeros 6) ++ payload ++ zeros 16

unfoldable pub encode : Label Block → List ℕ
encode missing = []
encode blank = zeros 512
encode rebuilding = sector 3 (zeros 480)
encode (has empty) = sector 1 (zeros 480)
encode (has (committed v)) = sector 2 v.bytes

-- a committed record with the payload p, if b is that
unfoldable pub committed_from : List ℕ → List ℕ → Option (Label Block)
committed_from b p = cond (bytes_eq b (sector 2 p)) (map (λ v. has (committed v)) (block_of p)) none

unfoldable pub decode : List ℕ → Option (Label Block)
decode b =
    cond (bytes_eq b []) (some missing)
    (cond (bytes_eq b (zeros 512)) (some blank)
    (cond (bytes_eq b (sector 3 (zeros 480))) (some rebuilding)
    (cond (bytes_eq b (sector 1 (zeros 480))) (some (has empty))
    (committed_from b (take 480 (drop 16 b))))))

unfoldable pub first_block : Block
unfolding zeros all_bytes
first_block = record { bytes = zeros 480; is_block = tt }

abbrev pub labels : Codec
labels = record { V = Block; first = first_block; encode = encode; decode = decode }

-- the labels are right, and with them the root record stands
abbrev pub LabelledRootStands : Type 0
LabelledRootStands = Lawful labels × RootStands labels
