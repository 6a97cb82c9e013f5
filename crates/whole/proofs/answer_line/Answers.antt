use Rattle.whole.proofs.Stands.{time_stands}
use Rattle.whole.proofs.answer_line.Goals as goal

pub returns-clause-whole : goal.returns-clause-whole
returns-clause-whole g c = time_stands
