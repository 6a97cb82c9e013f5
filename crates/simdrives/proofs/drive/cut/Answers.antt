use Rattle.std.proofs.Common.{ap}
use Rattle.simdrives.specs.Sims.{slot_of}
use Rattle.simdrives.proofs.Slotted.{cut_past}
use Rattle.simdrives.proofs.drive.cut.Goals as goal

pub returns-in_default : goal.returns-in_default
returns-in_default c = let e = ap slot_of c.in_default.is in cut_past _ _ e e
