use Rattle.std.proofs.Common.{◌≡◌, ℕ, ◌<◌, List, Bool, true, false, sym, ◌∙◌, arith}
use Rattle.std.proofs.lemmas.Slice.Eq.{slice_eq-Decides}
use Rattle.std.proofs.lemmas.Bool.Decides.{Decides-eqb, not_from_Decides}
use lib.Pointwise.{pointwise}
use lib.Dec.{eqb}
use Rattle.drives.specs.Drives.{zeros}
use Rattle.labels.proofs.Shows.{shows_blank, shows_rebuilding, shows_empty, shows_committed, shows_foreign}
use Rattle.labels.proofs.label_in.Goals as goal

-- what a test of two arrays says, where the second is as told
is : {b c d : List ℕ} {r : Bool} → r ≡ pointwise eqb b c → c ≡ d → r ≡ true → b ≡ d
is e f t = (slice_eq-Decides Decides-eqb _ _ _ e).0 t ∙ f

is_not : {b c d : List ℕ} {r : Bool} → r ≡ pointwise eqb b c → c ≡ d → r ≡ false → b ≡ d → ⊥
is_not e f t g = not_from_Decides _ (slice_eq-Decides Decides-eqb _ _ _ e) t (g ∙ sym f)

pub returns-then-eq : goal.returns-then-eq
unfolding zeros
returns-then-eq c = sym (shows_blank c.args.sector.now ((slice_eq-Decides Decides-eqb _ _ _ c.eq.ensures).0 c.if-eq.true))

pub returns-then-eq-2 : goal.returns-then-eq-2
returns-then-eq-2 c = sym (shows_rebuilding c.args.sector.now (is c.eq-else-eq.ensures c.laid.ensures c.if-eq-2.true))

pub returns-then-eq-3 : goal.returns-then-eq-3
returns-then-eq-3 c = sym (shows_empty c.args.sector.now (is c.eq-else-eq-2.ensures c.laid-else-eq-2.ensures c.if-eq-3.true))

pub returns-then-eq-4 : goal.returns-then-eq-4
returns-then-eq-4 c =
    let l : c.time_in-time.result < 18446744073709551616 = omega arith in
    sym (shows_committed c.args.sector.now _ l (is c.eq-else-eq-3.ensures c.laid-else-eq-3.ensures c.if-eq-4.true))

pub returns-else-eq-4 : goal.returns-else-eq-4
unfolding zeros
returns-else-eq-4 c =
    sym (shows_foreign c.args.sector.now _ c.time_in-time.ensures
    (omega arith)
    (not_from_Decides _ (slice_eq-Decides Decides-eqb _ _ _ c.eq.ensures) c.if-eq.false)
    (is_not c.eq-else-eq.ensures c.laid.ensures c.if-eq-2.false)
    (is_not c.eq-else-eq-2.ensures c.laid-else-eq-2.ensures c.if-eq-3.false)
    (is_not c.eq-else-eq-3.ensures c.laid-else-eq-3.ensures c.if-eq-4.false))
