-- The drives that a list of them stands for.
-- Assumes nothing.
use Rattle.std.proofs.Common.{◌≡◌, ℕ, ◌<◌, ◌≤◌, Bool, true, false, cond, not, eqb, leb, List, [], length, is_some, Some, None, Option, sym, refl, ap, ◌∙◌, subst, arith, eqb-true}
use mathlib.Core.Path.{fun_ext}
use Rattle.std.proofs.lemmas.Bool.Decides.{nat_tests}
use Rattle.std.proofs.lemmas.List.{get_or_past}
use Rattle.drives.specs.Drives.{Slot, gone, Drives, put, AfterCut, CutSlot, nothing, shown, written_to, synced_one}
use Rattle.drives.specs.Machines.{is_gone}
use Rattle.simdrives.specs.Sims.{slot_of, slots}
use Rattle.simdrives.specs.declared.sectors.Sectors.{Sectors}

-- past the last there is none
pub past : (ds : List (Option Sectors)) (i : ℕ) → length ds ≤ i → slots ds i ≡ gone
past ds i h = ap slot_of (get_or_past ds i None h)

-- putting what is there changes nothing
pub put_same : (d : Drives) (i : ℕ) (x : Slot) → d i ≡ x → put i x d ≡ d
put_same d i x e = fun_ext (λ j. go j (eqb j i) refl)
  where
    go : (j : ℕ) (b : Bool) → eqb j i ≡ b → cond b x (d j) ≡ d j
    go j true t = sym e ∙ ap d (sym (eqb-true j i t))
    go j false t = refl

pub cut_past : (a b : Slot) → a ≡ gone → b ≡ gone → CutSlot a b
cut_past a b p q = subst (λ (x : Slot). CutSlot x b) (sym p) (subst (λ (y : Slot). CutSlot gone y) (sym q) nothing)

-- each of the drives that there are was cut
pub cut_each : (ds es : List (Option Sectors)) (n : ℕ) → ((k : ℕ) → k < n → CutSlot (slots ds k) (slots es k)) → ((k : ℕ) → n ≤ k → slots es k ≡ slots ds k) → length ds ≤ n → AfterCut (slots ds) (slots es)
cut_each ds es n below above l k = go (leb n k) refl
  where
    go : (b : Bool) → leb n k ≡ b → CutSlot (slots ds k) (slots es k)
    go true t =
        let h : n ≤ k = grind (arith, nat_tests) in
        let none = past ds k (omega arith) in
        cut_past _ _ none (above k h ∙ none)
    go false t = below k (grind (arith, nat_tests))

pub told_gone : (x : Option Sectors) (r : Bool) → is_some x ≡ not r → r ≡ is_gone (slot_of x)
unfolding is_gone
told_gone None true e = refl
told_gone None false e = e
told_gone (Some d) true e = e
told_gone (Some d) false e = refl

-- what a drive past the last is asked changes nothing
pub past_same : (b : Bool) (ds es : List (Option Sectors)) (i : ℕ) (f : Slot → Slot) → ds ≡ es → length es ≤ i → f gone ≡ gone → slots ds ≡ cond b (put i (f (slots es i)) (slots es)) (slots es)
past_same true ds es i f e l g = ap slots e ∙ sym (put_same (slots es) i (f (slots es i)) (past es i l ∙ sym (ap f (past es i l) ∙ g)))
past_same false ds es i f e l g = ap slots e

pub synced_gone : synced_one gone ≡ gone
unfolding synced_one
synced_gone = refl

pub written_gone : (s : ℕ) (b : List ℕ) → written_to s b gone ≡ gone
unfolding written_to
written_gone s b = refl

pub read_gone : (b : Bool) (x : Slot) (s : ℕ) → x ≡ gone → [] ≡ cond b (shown x s) []
unfolding shown
read_gone true x s e = sym (ap (λ y. shown y s) e)
read_gone false x s e = refl
