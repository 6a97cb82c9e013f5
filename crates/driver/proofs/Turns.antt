-- One turn of the loop is one request.
-- Assumes nothing.
use Rattle.std.proofs.Common.{◌≡◌, ℕ, zero, suc, Bool, List, refl, ap, ◌∙◌, subst}
use mathlib.Core.Path.{subst⁻¹}
use Rattle.drives.specs.Drives.{Drives, Io, answer, then', run}
use Rattle.drives.proofs.Programs.{run_then}
use Rattle.steps.proofs.Alike.{Alike, alike_run}
use Rattle.steps.specs.Steps.{Held, Stepped, Stepping, first, runs, machine_of}
use Rattle.steps.specs.declared.Lent.{Lent}
use Rattle.steps.specs.declared.Ask.{Ask}
use Rattle.steps.specs.declared.Ask.TheVariants.{Read, Write, Sync, Again, Done}
use Rattle.driver.specs.Loops.{performed, Leaves, Ends}

module _ {M : Type 0} (f : Held M → List ℕ → Stepped M) (me : M) (lent : Lent) (d : Drives) where
  abbrev from : ℕ → Ask → Io (Held M)
  from n a = runs f n (record { me = me; lent = lent; ask = a })

  pub turn : (n : ℕ) (a : Ask) → (a ≡ Done → ⊥) → run (from (suc n) a) d ≡ run (runs f n (f (record { me = me; lent = lent }) (performed a lent d).got)) (performed a lent d).drives
  unfolding run runs
  turn n (Read i s) h = refl
  turn n (Write i s at) h = refl
  turn n (Sync i) h = refl
  turn n Again h = refl
  turn n Done h = absurd (h refl)

  pub ended : (n : ℕ) (a : Ask) → a ≡ Done → Leaves (from n a) d (record { me = me; lent = lent }) d
  unfolding run runs
  ended zero a h = refl
  ended (suc n) a h = ap (λ b. run (from (suc n) b) d) h

  pub spent : (n : ℕ) (a : Ask) → n ≡ 0 → Leaves (from n a) d (record { me = me; lent = lent }) d
  unfolding run runs
  spent n a h = ap (λ m. run (from m a) d) h

-- what is only worked out afterwards
pub leaves_map : {A B : Type 0} (p : Io A) (f : A → B) (d : Drives) {a : A} {e : Drives} → Leaves p d a e → Leaves (then' p (λ x. answer (f x))) d (f a) e
unfolding run
leaves_map p f d h = run_then p (λ x. answer (f x)) d ∙ ap (λ r. run (answer (f r.value)) r.drives) h

-- The loop's end is that of the machine's program, where the loop was begun from the state m and the machine then says r.
module _ {C R M K : Type 0} (s : Stepping C R M) (n : ℕ) (d : Drives) (h g : Held M) {m : M} {e : Drives} where
  pub leaves_call : (c : C) {r : R} → m ≡ s.starts c h.me → r ≡ s.says g.me → K × Leaves (runs s.steps n (first s m h.lent)) d g e →
      K × Leaves ((machine_of s n).does c h) d (record { reply = r; mem = g }) e
  leaves_call c begun said (k, ran) = (
    k,
    subst⁻¹ (λ r. Leaves ((machine_of s n).does c h) d (record { reply = r; mem = g }) e) said
        (leaves_map _ _ d (subst (λ m. Leaves (runs s.steps n (first s m h.lent)) d g e) begun ran)),
  )

  pub leaves_mend : {w : Bool} → m ≡ s.mending h.me → w ≡ s.whole g.me → K × Leaves (runs s.steps n (first s m h.lent)) d g e →
      K × Leaves ((machine_of s n).mends h) d (record { whole = w; mem = g }) e
  leaves_mend begun said (k, ran) = (
    k,
    subst⁻¹ (λ w. Leaves ((machine_of s n).mends h) d (record { whole = w; mem = g }) e) said
        (leaves_map _ _ d (subst (λ m. Leaves (runs s.steps n (first s m h.lent)) d g e) begun ran)),
  )

-- a program that is like one whose end is known ends like it
pub leaves_ends : {A B K : Type 0} {S : A → B → Type 0} {p : Io A} {q : Io B} (d : Drives) {e : Drives} {a : A} → Alike S p q → K × Leaves p d a e → K × Ends (S a) q d e
leaves_ends {S = S} {q = q} d l (k, h) =
    let s = alike_run l d in
    (k, (subst (λ r. S r.value (run q d).value) h s.values, s.drives ∙ ap (λ r. r.drives) h))
