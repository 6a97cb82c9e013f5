-- Assumes nothing.
use Rattle.steps.proofs.Mirror.{code_keeps}
use Rattle.steps.proofs.machines.code_keeps.Goals as goal

pub returns : goal.returns
returns g c = code_keeps {S = g.M.Stepper.same} g.met.M.Stepper.tied g.J.Judges.judge
