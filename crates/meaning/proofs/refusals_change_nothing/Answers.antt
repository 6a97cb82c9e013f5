use Rattle.meaning.proofs.Refusals.{refusals_change_nothing}
use Rattle.meaning.proofs.refusals_change_nothing.Goals as goal

pub returns : goal.returns
returns c = refusals_change_nothing
