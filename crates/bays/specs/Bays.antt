-- Which files count as drives, and how each drive stands.
-- Assumes nothing.
use Rattle.std.specs.Prelude.{◌≡◌, codes, ℕ, ◌/◌, ◌%◌, ◌<◌, Bool, true, false, cond, ◌&&◌, List, [], ◌∷◌, ◌==◌, nat_le, nat_lt, slice_index_or, Option, Some, None, unwrap_or, count_by, fold}
use Rattle.std.specs.Option.{option_map, option_or}
use Rattle.bays.specs.declared.Label.{Label}
use Rattle.bays.specs.declared.Label.TheVariants as label
use Rattle.labels.specs.declared.Label.{Label as Shown}
use Rattle.labels.specs.declared.Label.TheVariants as shown
use Rattle.bays.specs.declared.Found.{Found}
use Rattle.bays.specs.declared.Drive.{Drive}
use Rattle.bays.specs.declared.Drives.{Drives}
use Rattle.bays.specs.declared.Drive.TheVariants.{Unseen, Gone, Odd, Foreign, Stale, Blank, Rebuilding, Trusted}

-- what the sector 0 of a file shows, as far as it matters which drives count; what isn't ours is left alone
abbrev pub label_of : Shown → Label
label_of shown.Missing = label.Foreign
label_of shown.Blank = label.Blank
label_of shown.Rebuilding = label.Mark
label_of shown.Empty = label.Record
label_of (shown.Committed payload) = label.Record
label_of shown.Foreign = label.Foreign

-- a length in bytes that a drive may have: whole sectors, 8,192 to 2^40 of them
abbrev pub fits : ℕ → Bool
fits n = n % 512 == 0 && (nat_le 8192 (n / 512) && nat_le (n / 512) 1099511627776)

abbrev pub has_length : ℕ → Option Found → Bool
has_length n None = false
has_length n (Some file) = file.bytes == n

-- how many files have that length
unfoldable pub votes : ℕ → List (Option Found) → ℕ
votes n seen = count_by (has_length n) seen

-- A length that a drive may have, and more files than have the best so far; where there is none so far, more than are empty.
abbrev pub better : List (Option Found) → Option ℕ → Option Found → Option ℕ
better all best None = best
better all best (Some file) = cond (fits file.bytes && nat_lt (votes (unwrap_or best 0) all) (votes file.bytes all)) (Some file.bytes) best

-- the length in sectors that most files have; of two that as many have, the one of the lowest-numbered drive
abbrev pub elected : List (Option Found) → Option ℕ
elected seen = option_map (λ n. n / 512) (fold (better seen) None seen)

-- the number of sectors, once it is known
abbrev pub settled : Option ℕ → List (Option Found) → Option ℕ
settled known seen = option_or known (elected seen)

-- it was away while the house worked, so what it holds may be old
abbrev pub is_away : Drive → Bool
is_away Unseen = false
is_away Gone = true
is_away Odd = true
is_away Foreign = true
is_away Stale = true
is_away Blank = false
is_away Rebuilding = false
is_away Trusted = false

abbrev pub is_there : Drive → Bool
is_there Unseen = false
is_there Gone = false
is_there Odd = false
is_there Foreign = false
is_there Stale = false
is_there Blank = true
is_there Rebuilding = true
is_there Trusted = true

abbrev pub labelled : Label → Bool → Drive
labelled label.Blank away = Blank
labelled label.Mark away = cond away Stale Rebuilding
labelled label.Record away = cond away Stale Trusted
labelled label.Foreign away = Foreign

-- while no length is known, only an empty file is of the right one
abbrev pub admitted : Drive → Option Found → Option ℕ → Drive
admitted was None sectors = Gone
admitted was (Some file) sectors = cond (file.bytes % 512 == 0 && file.bytes / 512 == unwrap_or sectors 0) (labelled file.label (is_away was)) Odd

-- each of the six drives
abbrev pub Admits : List Drive → List Drive → List (Option Found) → Option ℕ → Type 0
Admits before after seen sectors = (k : ℕ) → k < 6 → slice_index_or after k Unseen ≡ admitted (slice_index_or before k Unseen) (slice_index_or seen k None) sectors

abbrev pub unseen : Drives
unseen = record { at = Unseen ∷ Unseen ∷ Unseen ∷ Unseen ∷ Unseen ∷ Unseen ∷ []; sectors = None }

-- what a drive is called in `status`
abbrev pub called : Drive → List ℕ
called Unseen = codes "gone"
called Gone = codes "gone"
called Odd = codes "of another length"
called Foreign = codes "foreign"
called Stale = codes "stale (a drive comes back only blank)"
called Blank = codes "blank"
called Rebuilding = codes "rebuilding"
called Trusted = codes "trusted"
