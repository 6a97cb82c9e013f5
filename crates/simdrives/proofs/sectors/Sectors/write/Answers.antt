use Rattle.std.proofs.Common.{[], ◌∷◌, ◌++◌, box_value, sym, ap, ◌∙◌, rules}
use Rattle.std.proofs.lemmas.Bool.Decides.{nat_tests}
use Rattle.simdrives.specs.Sims.{bytes_of}
use Rattle.simdrives.specs.declared.sectors.Before.{Before}
use Rattle.simdrives.proofs.Undone.{wrote_so}
use Rattle.simdrives.proofs.sectors.Sectors.write.Goals as goal

pub returns : goal.returns
returns c =
    let w : Before = record { sector = c.args.sector; bytes = c.in_ok-before.before } in
    let u = c.in_ok-before.ensures.updates in
    wrote_so _ _ _ _ w _ (c.push_reserved.ensures.items ∙ ap (λ xs. xs ++ w ∷ []) c.in_ok-reserve.ensures.items)
    (ap (bytes_of box_value) (sym c.in_ok-before.ensures.old))
    (ap (bytes_of box_value) u.1 ∙ c.in_ok-held.ensures.ok)
    (λ t e. ap (bytes_of box_value) (u.2 t (grind (rules, nat_tests, e))))
