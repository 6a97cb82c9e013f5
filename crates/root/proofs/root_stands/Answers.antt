-- The theorem for labels with payloads of 480 bytes.
-- Assumes nothing.
use Rattle.root.specs.Labels.{labels}
use Rattle.root.proofs.Labels.{labels_lawful}
use Rattle.root.proofs.Root.{root_stands}
use Rattle.root.proofs.root_stands.Goals as goal

pub returns : goal.returns
returns c = (labels_lawful, root_stands labels labels_lawful)
