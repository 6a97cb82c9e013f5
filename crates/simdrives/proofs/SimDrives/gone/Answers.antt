use Rattle.std.proofs.Common.{◌≡◌, Bor, Option, true, not, is_some, None, get_or, sym, ap, ◌∙◌, rules, of_calls}
use Rattle.std.proofs.Math.ListN.{get_or-map}
use Rattle.drives.specs.Machines.{is_gone}
use Rattle.simdrives.specs.Sims.{slot_of}
use Rattle.simdrives.specs.declared.sectors.Sectors.{Sectors}
use Rattle.simdrives.proofs.Slotted.{told_gone}
use Rattle.simdrives.proofs.SimDrives.gone.Goals as goal

pub returns : goal.returns
returns c = λ i h.
    let none : Bor (Option Sectors) = record { ref_ptr = c.args.self.ref_ptr; now = None } in
    let call = (c.map.ensures.items.at i none true h).2 in
    let drive = (get_or c.each_ref.result i none).now in
    let tells : is_some drive ≡ not (get_or c.map.result i true) = search (rules, of_calls) in
    let same : drive ≡ get_or c.args.self.now.drives i None = sym (get_or-map (λ r. r.now) c.each_ref.result i none) ∙ ap (λ ds. get_or ds i None) c.each_ref.ensures.items in
    told_gone drive _ tells ∙ ap (λ o. is_gone (slot_of o)) same
