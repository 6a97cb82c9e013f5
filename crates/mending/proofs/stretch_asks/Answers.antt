use Rattle.mending.proofs.Asks.{stretch_asks}
use Rattle.mending.proofs.stretch_asks.Goals as goal

pub returns : goal.returns
returns c = stretch_asks
