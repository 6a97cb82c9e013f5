use Rattle.std.proofs.Common.{sym, arith}
use Rattle.std.proofs.lemmas.Bool.Decides.{nat_tests}
use Rattle.labels.proofs.Shows.{shows_missing, shows_odd}
use Rattle.labels.proofs.read_label.Goals as goal

pub returns-in-None : goal.returns-in-None
returns-in-None c = sym (shows_missing c.args.sector.now (grind (arith, nat_tests)))

pub returns-in-None-2 : goal.returns-in-None-2
returns-in-None-2 c = sym (shows_odd c.args.sector.now (grind (arith, nat_tests)) c.in-None.ensures.cases)
