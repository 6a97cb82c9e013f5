-- What is said of drives of which something may be known.
-- Assumes nothing.
use Rattle.drives.specs.Drives.{Drives}

-- Where it was known what the drives hold, it still is, and P holds of what they held and of what they hold now.
abbrev pub WhereKnown : {D : Type 0} → (D → Type 0) → (D → Drives) → D → D → (Drives → Drives → Type 0) → Type 0
WhereKnown known model old new P = known old → known new × P (model old) (model new)
