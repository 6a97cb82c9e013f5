use Rattle.std.proofs.Common.{◌≤◌, length, ap, arith}
use Rattle.drives.specs.Drives.{synced_one}
use Rattle.simdrives.proofs.Slotted.{past_same, synced_gone}
use Rattle.simdrives.proofs.SimDrives.sync_one.Goals as goal

pub returns-else-drive-lt6-clause-drives : goal.returns-else-drive-lt6-clause-drives
returns-else-drive-lt6-clause-drives c =
    let l : length c.args.self.now.drives ≤ c.args.drive = omega arith in
    past_same _ _ _ _ synced_one (ap (λ s. s.drives) c.carries_on.ensures.after) l synced_gone
