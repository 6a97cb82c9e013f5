use Rattle.std.proofs.Common.{sym, ap, ◌∙◌}
use Rattle.recorder.specs.Recording.{step_in}
use Rattle.recorder.proofs.RecorderStepper.step.Goals as goal

pub returns-in-Begun : goal.returns-in-Begun
returns-in-Begun c =
    c.read_all.ensures c.args.lent.now ∙ sym (ap (λ p. step_in p c.args.self.now c.args.lent.now c.args.got.now) c.in-Begun.is)
