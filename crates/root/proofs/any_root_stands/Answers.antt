-- The theorem for whatever labels are given.
-- Assumes nothing.
use Rattle.root.proofs.Root.{root_stands}
use Rattle.root.proofs.any_root_stands.Goals as goal

pub returns : goal.returns
returns g c = let l = g.L.Labelling.labels in root_stands l.codec l.lawful
