-- The theorem at whatever setting is given.
-- Assumes nothing.
use Rattle.drives.proofs.Simulation.{shown_keeps}
use Rattle.drives.proofs.shown_keeps.Goals as goal

pub returns : goal.returns
returns g c = shown_keeps g.S.Shown.showing
