use Rattle.std.proofs.Common.{◌≡◌, List, ◌++◌, reverse, vec_items, vec_len}
use Rattle.simdrives.specs.Sims.{holds_at, drive_of}
use Rattle.simdrives.specs.declared.sectors.Before.{Before}
use Rattle.simdrives.proofs.Undone.{Among}
use Rattle.simdrives.proofs.sectors.Sectors.go_back.Given as goal

-- each sector holds what a cut may leave there, and what is left of the writes is their front
abbrev pub invariant-loop-before : goal.invariant-loop-before
invariant-loop-before l =
    Among (drive_of l.initial.self) (holds_at l.self) ×
    ((done : List Before) × (reverse (vec_items l.initial.self.undo) ≡ done ++ reverse (vec_items l.self.undo)))

abbrev pub decreases-loop-before : goal.decreases-loop-before
decreases-loop-before l = vec_len l.self.undo
