use Rattle.meaning.proofs.HoldEnds.{held_until}
use Rattle.meaning.proofs.held_until.Goals as goal

pub returns : goal.returns
returns c = held_until
