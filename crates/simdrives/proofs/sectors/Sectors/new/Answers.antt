use Rattle.std.proofs.Common.{◌≡◌, ℕ, None, box_value, refl, ap}
use Rattle.std.specs.BTreeMap as tree
use Rattle.std.specs.Ordering.{nat_cmp}
use Rattle.simdrives.specs.Sims.{bytes_of}
use Rattle.simdrives.proofs.Undone.{blank_so}
use Rattle.simdrives.proofs.sectors.Sectors.new.Goals as goal

pub returns : goal.returns
returns c =
    let none : (s : ℕ) → tree.get nat_cmp c.new.result s ≡ None = λ s. rw c.new.ensures.empty refl in
    blank_so _ _ c.new-2.ensures.items (λ s. ap (bytes_of box_value) (none s))
