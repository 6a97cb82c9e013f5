use Rattle.elements.proofs.Words.{doubled_lanes}
use Rattle.elements.proofs.lanes.doubled.Goals as goal

pub returns : goal.returns
returns c = doubled_lanes 32 c.args.x c.fits-x.0 c.fits-x.1
