use Rattle.drives.specs.Drives.{zeros}
use Rattle.root.specs.Labels.{sector}
use Rattle.labels.proofs.laid.Goals as goal

pub returns : goal.returns
unfolding sector zeros
returns c = simp (c.copy_from_slice.ensures.after, c.copy_from_slice-2.ensures.after, c.to_be_bytes.ensures, c.from.ensures)
