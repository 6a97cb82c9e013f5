use Rattle.meaning.proofs.Grown.{full_only}
use Rattle.meaning.proofs.full_only.Goals as goal

pub returns : goal.returns
returns c = full_only
