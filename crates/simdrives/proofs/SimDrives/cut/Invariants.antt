use Rattle.std.proofs.Common.{◌≡◌, ℕ, ◌<◌, ◌≤◌}
use Rattle.drives.specs.Drives.{CutSlot}
use Rattle.simdrives.specs.Sims.{slots}
use Rattle.simdrives.proofs.SimDrives.cut.Given as goal

abbrev pub invariant-loop-slot : goal.invariant-loop-slot
invariant-loop-slot l =
    ((k : ℕ) → k < l.slot-index → CutSlot (slots l.initial.slot-items k) (slots l.slot-items k)) ×
    ((k : ℕ) → l.slot-index ≤ k → slots l.slot-items k ≡ slots l.initial.slot-items k)
