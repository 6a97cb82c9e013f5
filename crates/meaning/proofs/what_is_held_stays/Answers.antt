-- The theorem is in Stays.
-- Assumes nothing.
use Rattle.meaning.proofs.Stays.{held_stays}
use Rattle.meaning.proofs.what_is_held_stays.Goals as goal

pub returns : goal.returns
returns c = held_stays
