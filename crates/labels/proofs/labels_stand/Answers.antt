use Rattle.labels.proofs.Lawful.{labels_stand}
use Rattle.labels.proofs.labels_stand.Goals as goal

pub returns : goal.returns
returns c = labels_stand
