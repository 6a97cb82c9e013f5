-- What is still to be run comes to what was to be run at first.
use Rattle.std.proofs.Common.{◌≡◌, ◌-◌}
use Rattle.drives.specs.Drives.{run}
use Rattle.steps.specs.Steps.{first, runs}
use Rattle.driver.specs.Known.{WhereKnown}
use Rattle.driver.proofs.finish.Given as goal

abbrev pub invariant-loop : goal.invariant-loop
invariant-loop g l =
    let s = g.M.Stepper.code in
    WhereKnown g.D.Disks.known g.D.Disks.model l.fn.disks l.disks (λ d e.
    run (runs s.steps (l.fn.most - l.counter) (record { me = g.M.Stepper.view l.m; lent = l.lent; ask = l.ask })) e ≡
    run (runs s.steps l.fn.most (first s (g.M.Stepper.view l.fn.m) l.fn.lent)) d)
