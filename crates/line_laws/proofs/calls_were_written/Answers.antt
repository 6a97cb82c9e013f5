use Rattle.line_laws.proofs.Proved.{calls_were_written}
use Rattle.line_laws.proofs.calls_were_written.Goals as goal

pub returns : goal.returns
returns c = calls_were_written
