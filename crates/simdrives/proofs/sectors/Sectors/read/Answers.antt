use Rattle.std.proofs.Common.{box_value, sym, ap, ◌∙◌}
use Rattle.simdrives.specs.Sims.{bytes_of}
use Rattle.simdrives.proofs.Undone.{read_is, zeros_so}
use Rattle.simdrives.proofs.sectors.Sectors.read.Goals as goal

pub returns-in-Some : goal.returns-in-Some
returns-in-Some c = c.deref.ensures ∙ (ap (bytes_of box_value) c.in-Some.ensures.value ∙ sym (read_is _ _ c.args.sector))

pub returns-in-None : goal.returns-in-None
returns-in-None c = sym (zeros_so 512) ∙ (ap (bytes_of box_value) c.in-None.ensures.value ∙ sym (read_is _ _ c.args.sector))
