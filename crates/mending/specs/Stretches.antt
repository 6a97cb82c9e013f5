-- What a stretch of mending does, by the labels that the six drives show.
-- Assumes nothing.
use Rattle.std.specs.Prelude.{◌≡◌, ◌+◌, Bool, not, List, [], ◌∷◌, map, count_by}
use Rattle.drives.specs.Drives.{Drives, shown, ops_of}
use Rattle.root.specs.Root.{Record, machine}
use Rattle.labels.specs.declared.Label.{Label}
use Rattle.labels.specs.Times.{Time, timed, label_in, trusts}
use Rattle.mending.specs.declared.Stretch.{Stretch}

-- a drive that shows no record lacks it
abbrev pub lacks : Label → Bool
lacks l = not (trusts l)

-- each drive that lacks the record gets it; six labels are read, and six drives synced
abbrev pub stretch_of : List Label → Stretch
stretch_of seen = record { fills = map lacks seen; asks = 12 + count_by lacks seen }

-- what six drives show
abbrev pub labels_on : Drives → List Label
labels_on d = label_in (shown (d 0) 0) ∷ label_in (shown (d 1) 0) ∷ label_in (shown (d 2) 0) ∷ label_in (shown (d 3) 0) ∷ label_in (shown (d 4) 0) ∷ label_in (shown (d 5) 0) ∷ []

-- A STRETCH ASKS FOR AS MUCH AS IT SAYS: the root record's mending, on whatever drives there are.
abbrev pub StretchAsks : Type 0
StretchAsks = (m : Record Time) (d : Drives) → ops_of ((machine timed).mends m) d ≡ (stretch_of (labels_on d)).asks
