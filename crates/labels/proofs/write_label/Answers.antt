use Rattle.std.proofs.Common.{◌<◌, sym, ap, ◌∙◌, arith}
use Rattle.labels.specs.Times.{label_bytes}
use Rattle.labels.proofs.Shows.{written_empty, written_committed}
use Rattle.labels.proofs.write_label.Goals as goal

pub returns-in-None : goal.returns-in-None
returns-in-None c = c.laid.ensures ∙ written_empty ∙ sym (ap label_bytes c.in-None.is)

pub returns-in-Some : goal.returns-in-Some
returns-in-Some c =
    let l : c.in-Some.p.time < 18446744073709551616 = omega arith in
    c.laid-in-Some.ensures ∙ written_committed c.in-Some.p l ∙ sym (ap label_bytes c.in-Some.is)
