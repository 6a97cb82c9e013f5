use Rattle.line_laws.proofs.Proved.{answers_are_read}
use Rattle.line_laws.proofs.answers_are_read.Goals as goal

pub returns : goal.returns
returns c = answers_are_read
