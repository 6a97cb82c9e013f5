use Rattle.std.proofs.Common.{◌≤◌, length, sym, ap, arith}
use lib.Seq.{set_out}
use Rattle.recorder.specs.declared.Drives.{Drives}
use Rattle.recorder.proofs.Drives.note.Goals as goal

pub returns-else-i-lt6 : goal.returns-else-i-lt6
returns-else-i-lt6 c =
    let h : length c.args.self.now.seen ≤ c.args.i = omega arith in ap {B = Drives} (λ l. record { seen = l }) (sym (set_out c.args.self.now.seen c.args.i c.args.l h))
