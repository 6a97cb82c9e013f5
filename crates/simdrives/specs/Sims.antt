-- Drives in memory, and the drives that they stand for.
-- Assumes nothing.
use Rattle.std.specs.Prelude.{ℕ, cond, List, [], ◌∷◌, reverse, Some, None, vec_items, box_value, Option, ◌==◌, slice_index_or}
use Rattle.std.specs.BTreeMap as tree
use Rattle.drives.specs.Drives.{Drive, Slot, gone, there, zeros}
use Rattle.simdrives.specs.declared.sectors.Before.{Before}
use Rattle.simdrives.specs.declared.sectors.Sectors.{Sectors}
use Rattle.std.specs.Ordering.{nat_cmp}

-- a sector that was never written to holds zeros
abbrev pub bytes_of : {B : Type 0} → (B → List ℕ) → Option B → List ℕ
bytes_of f None = zeros 512
bytes_of f (Some b) = f b

abbrev pub bytes_before : Before → List ℕ
bytes_before w = bytes_of box_value w.bytes

abbrev pub holds_at : Sectors → ℕ → List ℕ
holds_at d s = bytes_of box_value (tree.get nat_cmp d.holds s)

-- What a sector held at the last sync, and what was written to it since: it holds bs, and the writes, the latest first, are told by what was there before each.
unfoldable pub kept_by : List Before → List ℕ → ℕ → List ℕ
kept_by [] bs s = bs
kept_by (w ∷ ws) bs s = cond (s == w.sector) (kept_by ws (bytes_before w) s) (kept_by ws bs s)

unfoldable pub since_by : List Before → List ℕ → ℕ → List (List ℕ)
since_by [] bs s = []
since_by (w ∷ ws) bs s = cond (s == w.sector) (bs ∷ since_by ws (bytes_before w) s) (since_by ws bs s)

-- sectors that hold what f says, after writes
abbrev pub drive_by : (ℕ → List ℕ) → List Before → Drive
drive_by f ws = record { kept = λ s. kept_by ws (f s) s; since = λ s. since_by ws (f s) s }

abbrev pub drive_of : Sectors → Drive
drive_of d = drive_by (holds_at d) (reverse (vec_items d.undo))

abbrev pub slot_of : Option Sectors → Slot
slot_of None = gone
slot_of (Some d) = there (drive_of d)

-- the drives, by their numbers; past the last there are none
abbrev pub slots : List (Option Sectors) → ℕ → Slot
slots ds i = slot_of (slice_index_or ds i None)
