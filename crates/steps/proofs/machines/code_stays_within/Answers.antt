-- Assumes nothing.
use Rattle.steps.proofs.Mirror.{code_within}
use Rattle.steps.proofs.machines.code_stays_within.Goals as goal

pub returns : goal.returns
returns g c = code_within {S = g.M.Stepper.same} g.met.M.Stepper.tied
