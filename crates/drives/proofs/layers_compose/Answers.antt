-- The theorem at whatever setting is given.
-- Assumes nothing.
use Rattle.drives.proofs.Layers.{layers_compose}
use Rattle.drives.proofs.layers_compose.Goals as goal

pub returns : goal.returns
returns g c = let s = g.S.Layered.setting in layers_compose s.C s.R s.C' s.R' s.j s.j' s.e s.l
