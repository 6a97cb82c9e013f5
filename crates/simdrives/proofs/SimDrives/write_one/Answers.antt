use Rattle.std.proofs.Common.{◌≤◌, length, ap, arith}
use Rattle.drives.specs.Drives.{written_to}
use Rattle.simdrives.proofs.Slotted.{past_same, written_gone}
use Rattle.simdrives.proofs.SimDrives.write_one.Goals as goal

pub returns-else-drive-lt6-clause-drives : goal.returns-else-drive-lt6-clause-drives
returns-else-drive-lt6-clause-drives c =
    let l : length c.args.self.now.drives ≤ c.args.drive = omega arith in
    past_same _ _ _ _ (written_to c.args.sector c.args.bytes.now) (ap (λ s. s.drives) c.carries_on.ensures.after) l (written_gone c.args.sector c.args.bytes.now)
