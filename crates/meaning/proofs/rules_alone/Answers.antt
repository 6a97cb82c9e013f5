use Rattle.meaning.proofs.Ruled.{rules_alone}
use Rattle.meaning.proofs.rules_alone.Goals as goal

pub returns : goal.returns
returns c = rules_alone
