use Rattle.recorder.proofs.Stands.{recorder_stands}
use Rattle.recorder.proofs.recorder_stands.Goals as goal

pub returns : goal.returns
returns c = recorder_stands
