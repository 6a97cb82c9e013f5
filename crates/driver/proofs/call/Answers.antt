-- Assumes nothing.
use Rattle.steps.specs.Steps.{Held, machine_of}
use Rattle.steps.proofs.Mirror.{tied_mirrors}
use Rattle.driver.specs.Known.{WhereKnown}
use Rattle.driver.specs.Loops.{Leaves}
use Rattle.driver.proofs.Turns.{leaves_call, leaves_ends}
use Rattle.driver.proofs.call.Goals as goal

pub returns : goal.returns
returns g c =
    let s = g.M.Stepper.code in
    let n = c.args.most in
    let old : Held g.row.M-State.Denot = record { me = g.M.Stepper.view c.args.m.now; lent = c.args.lent.now } in
    let new : Held g.row.M-State.Denot = record { me = g.M.Stepper.view c.finish.new.m; lent = c.finish.new.lent } in
    let code : WhereKnown g.D.Disks.known g.D.Disks.model c.args.disks.now c.finish.new.disks (λ d e. Leaves ((machine_of s n).does c.args.c old) d (record { reply = c.reply.result; mem = new }) e) = λ k.
    leaves_call s n _ old new c.args.c c.begin.ensures c.reply.ensures (c.finish.ensures k) in
    record { code = code; read = λ size x lo hi b same k. leaves_ends _ ((tied_mirrors (g.met.M.Stepper.tied size lo hi) n b).does c.args.c old x same) (code k) }
