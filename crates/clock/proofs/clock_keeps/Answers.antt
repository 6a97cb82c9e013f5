use Rattle.clock.proofs.Standing.{clock_keeps}
use Rattle.clock.proofs.clock_keeps.Goals as goal

pub returns : goal.returns
returns c = clock_keeps
