use Rattle.field.proofs.Pieces.{zeros_stay}
use Rattle.field.proofs.zeros_stay.Goals as goal

pub returns : goal.returns
returns c = zeros_stay
