-- The theorem is in Bounds.
-- Assumes nothing.
use Rattle.meaning.proofs.Bounds.{stays_in_bounds}
use Rattle.meaning.proofs.stays_in_bounds.Goals as goal

pub returns : goal.returns
returns c = stays_in_bounds
