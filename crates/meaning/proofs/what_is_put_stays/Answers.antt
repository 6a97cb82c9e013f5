-- The theorem is in Stays.
-- Assumes nothing.
use Rattle.meaning.proofs.Stays.{stays}
use Rattle.meaning.proofs.what_is_put_stays.Goals as goal

pub returns : goal.returns
returns c = stays
