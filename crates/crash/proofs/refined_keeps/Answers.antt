-- The theorem at whatever refinement is given.
-- Assumes nothing.
use Rattle.crash.proofs.Refinement.{refined_keeps}
use Rattle.crash.proofs.refined_keeps.Goals as goal

pub returns : goal.returns
returns g c = refined_keeps g.S.Refined.refinement
