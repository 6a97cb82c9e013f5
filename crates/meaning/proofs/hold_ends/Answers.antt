use Rattle.meaning.proofs.HoldEnds.{hold_ends}
use Rattle.meaning.proofs.hold_ends.Goals as goal

pub returns : goal.returns
returns c = hold_ends
