use Rattle.meaning.specs.Lists.{every}
use Rattle.lines.specs.Calls.{many}
use Rattle.asks.proofs.write_read.Goals as goal

pub returns-in-Get : goal.returns-in-Get
unfolding every many
returns-in-Get c = rw c.in-Get.is c.write_line.ensures
