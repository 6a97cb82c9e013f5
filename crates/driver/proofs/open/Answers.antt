-- Assumes nothing.
use Rattle.std.proofs.Common.{rules}
use Rattle.steps.specs.Steps.{machine_of}
use Rattle.steps.proofs.Mirror.{tied_mirrors}
use Rattle.driver.specs.Known.{WhereKnown}
use Rattle.driver.specs.Loops.{Leaves}
use Rattle.driver.proofs.Turns.{leaves_ends}
use Rattle.driver.proofs.open.Goals as goal

pub returns : goal.returns
returns g c =
    let code : WhereKnown g.D.Disks.known g.D.Disks.model c.args.disks.now c.finish.new.disks (λ d e. Leaves ((machine_of g.M.Stepper.code c.args.most).opens c.args.size) d (record { me = g.M.Stepper.view c.finish.new.m; lent = c.finish.new.lent }) e) = search rules in
    record { code = code; read = λ lo hi b k. leaves_ends _ (tied_mirrors (g.met.M.Stepper.tied c.args.size lo hi) c.args.most b).opens (code k) }
