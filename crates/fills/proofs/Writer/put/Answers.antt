use Rattle.std.proofs.Common.{rules}
use Rattle.std.proofs.lemmas.Slice.{overwrites}
use Rattle.fills.specs.Fills.{put_at}
use Rattle.fills.proofs.Writer.put.Goals as goal

pub returns : goal.returns
unfolding put_at
returns c = search (rules, overwrites)
