use Rattle.field.proofs.Pieces.{any_four}
use Rattle.field.proofs.any_four_stands.Goals as goal

pub returns : goal.returns
returns c = any_four
