use Rattle.meaning.proofs.Ruled.{same_time_again}
use Rattle.meaning.proofs.same_time_again.Goals as goal

pub returns : goal.returns
returns c = same_time_again
