use Rattle.line_laws.proofs.Proved.{calls_are_read}
use Rattle.line_laws.proofs.calls_are_read.Goals as goal

pub returns : goal.returns
returns c = calls_are_read
