use Rattle.std.proofs.Common.{◌≡◌, rules}
use Rattle.drives.specs.Drives.{gone}
use Rattle.simdrives.specs.Sims.{slots}
use Rattle.simdrives.proofs.Slotted.{read_gone}
use Rattle.simdrives.proofs.SimDrives.read_one.Goals as goal

pub returns-in_default-clause-value : goal.returns-in_default-clause-value
returns-in_default-clause-value c = let l = c.get.ensures.lookup in let was : slots c.args.self.now.drives c.args.drive ≡ gone = search rules in read_gone _ _ _ was

pub returns-in_default-2-clause-value : goal.returns-in_default-2-clause-value
returns-in_default-2-clause-value c = let l = c.get.ensures.lookup in let was : slots c.args.self.now.drives c.args.drive ≡ gone = search rules in read_gone _ _ _ was
