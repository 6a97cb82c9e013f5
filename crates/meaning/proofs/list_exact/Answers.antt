use Rattle.meaning.proofs.Listed.{list_exact}
use Rattle.meaning.proofs.list_exact.Goals as goal

pub returns : goal.returns
returns c = list_exact
