use Rattle.meaning.specs.Lists.{every}
use Rattle.lines.specs.Calls.{many}
use Rattle.asks.proofs.write_change.Goals as goal

pub returns-in-Hold : goal.returns-in-Hold
unfolding every many
returns-in-Hold c = rw c.in-Hold.is c.write_line-in-Hold.ensures
