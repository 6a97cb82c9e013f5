-- The theorem is in Tells.
-- Assumes nothing.
use Rattle.meaning.proofs.Tells.{numbers_tell}
use Rattle.meaning.proofs.numbers_tell.Goals as goal

pub returns : goal.returns
returns c = numbers_tell
