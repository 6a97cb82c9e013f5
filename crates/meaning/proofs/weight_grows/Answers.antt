use Rattle.meaning.proofs.Grown.{weight_grows}
use Rattle.meaning.proofs.weight_grows.Goals as goal

pub returns : goal.returns
returns c = weight_grows
