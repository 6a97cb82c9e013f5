use Rattle.line_laws.proofs.Proved.{answers_were_written}
use Rattle.line_laws.proofs.answers_were_written.Goals as goal

pub returns : goal.returns
returns c = answers_were_written
