use Rattle.clock.specs.Spelled.{told_bytes}
use Rattle.front.specs.Fronts.{held_in}
use Rattle.front.specs.declared.House.{House}
use Rattle.front.proofs.Spelt.{line_leaves}
use Rattle.front.proofs.House.call.Goals as goal

pub returns-clause-ran : goal.returns-clause-ran
returns-clause-ran g c = λ k.
    let me = c.args.self.now in
    let me' : House g.row.L.Denot = record { running = c.call-told.new.self; longest = me.longest } in
    let held = held_in g.L.Stepper.view in
    let (k', ran) = c.call-told.ensures.code k in (
      k',
      record {
        bytes = told_bytes c.call-told.result;
        written = c.write_told.ensures;
        ran = line_leaves g.L.Stepper.code me.longest 1000 c.args.line.now c.hear-asked.result (held me) (held me') c.call-told.result (g.D.Disks.model c.args.disks.now) (g.D.Disks.model c.call-told.new.disks) c.hear-asked.ensures ran;
      },
    )
