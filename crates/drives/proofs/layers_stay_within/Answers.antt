-- The theorem at whatever setting is given.
-- Assumes nothing.
use Rattle.drives.proofs.Within.{layers_stay_within}
use Rattle.drives.proofs.layers_stay_within.Goals as goal

pub returns : goal.returns
returns g c = let s = g.S.Layered.setting in layers_stay_within s.C s.R s.C' s.R' s.e s.l
