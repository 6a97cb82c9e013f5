use Rattle.field.proofs.Pieces.{rebuilds_same}
use Rattle.field.proofs.rebuilds_same.Goals as goal

pub returns : goal.returns
returns c = rebuilds_same
