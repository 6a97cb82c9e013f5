-- Assumes nothing.
use Rattle.std.proofs.Common.{◌≡◌, suc, ◌+◌, ◌-◌, sym, ap, ◌∙◌, arith}
use Rattle.drives.specs.Drives.{run}
use Rattle.steps.specs.Steps.{runs}
use Rattle.driver.proofs.Turns.{turn, ended, spent}
use Rattle.driver.proofs.finish.Goals as goal

pub returns-in-Done : goal.returns-in-Done
returns-in-Done g c = λ k.
    let i = c.loop.invariant k in
    (i.0, sym i.1 ∙ ended g.M.Stepper.code.steps (g.M.Stepper.view c.loop.m) c.loop.lent (g.D.Disks.model c.loop.disks) _ c.loop.ask c.in-Done.is)

pub returns : goal.returns
returns g c = λ k.
    let i = c.loop.invariant k in
    (i.0, sym i.1 ∙ spent g.M.Stepper.code.steps (g.M.Stepper.view c.loop.m) c.loop.lent (g.D.Disks.model c.loop.disks) _ c.loop.ask (omega arith))

pub loop-preserved : goal.loop-preserved
loop-preserved g c = λ k.
    let f = g.M.Stepper.code.steps in
    let me = g.M.Stepper.view c.loop.m in
    let lent = c.loop.lent in
    let n = c.args.most - (c.loop.counter + 1) in
    let s : suc n ≡ c.args.most - c.loop.counter = omega arith in
    let i = c.loop.invariant k in
    let p = c.go_on-ask.ensures i.0 in (
      p.0,
      ap (λ a. run (runs f n a.after) a.drives) p.1 ∙
          sym (turn f me lent (g.D.Disks.model c.loop.disks) n c.loop.ask c.in_default.not-Done) ∙
          ap (λ k. run (runs f k (record { me = me; lent = lent; ask = c.loop.ask })) (g.D.Disks.model c.loop.disks)) s ∙
          i.1,
    )
