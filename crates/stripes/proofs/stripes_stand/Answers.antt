-- The theorem at whatever labels and codings are given.
-- Assumes nothing.
use Rattle.stripes.proofs.Stands.{stripes_stand}
use Rattle.stripes.proofs.stripes_stand.Goals as goal

pub returns : goal.returns
returns g c = let s = g.S.Striped.setting in stripes_stand s.codec s.lawful s.coding s.lawful_coding
