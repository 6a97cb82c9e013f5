-- The theorem is in Tells.
-- Assumes nothing.
use Rattle.meaning.proofs.Tells.{numbers_rise}
use Rattle.meaning.proofs.numbers_rise.Goals as goal

pub returns : goal.returns
returns c = numbers_rise
