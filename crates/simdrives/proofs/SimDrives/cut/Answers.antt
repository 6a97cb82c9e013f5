use Rattle.std.proofs.Common.{arith}
use Rattle.simdrives.proofs.Slotted.{cut_each}
use Rattle.simdrives.proofs.SimDrives.cut.Goals as goal

pub returns-clause-drives : goal.returns-clause-drives
returns-clause-drives c = cut_each _ _ c.loop-slot.slot-index c.loop-slot.invariant.0 c.loop-slot.invariant.1 (omega arith)
