-- How a machine is shown to keep to a judge, and to stay within bounds: by an invariant, and one obligation for each kind of step.
-- Assumes nothing.
use Rattle.std.specs.Prelude.{◌≡◌, Bool, false, cond, List, [], ◌∷◌, ℕ, suc, ◌<◌, ◌≤◌, length}
use Rattle.drives.specs.Drives.{smallest, largest, blank_drive, gone, there, Drives, put, AfterCut, Io, run, Upto, ops_of, Fair}
use Rattle.drives.specs.Machines.{longest, Machine, Judge, without, weak_after, Keeps, Within}

-- Does I Q p d: the program p, started on the drives d, has I wherever it is stopped, and Q of its answer and the drives at its end.
pub record Does {A : Type 0} (I : Drives → Type 0) (Q : A → Drives → Type 0) (p : Io A) (d : Drives) : Type 0 where
  pub always : {f : Drives} → Upto p d f → I f
  pub ends : Q (run p d).value (run p d).drives

-- all that a cut may leave of the drives f is as X says
abbrev pub Cuts : (Drives → Type 0) → Drives → Type 0
Cuts X f = (g : Drives) → AfterCut f g → X g

-- the drives that may be missing or not yet filled: never more than two
abbrev pub Few : List ℕ → Type 0
Few ws = length ws ≤ 2

-- the states that a cut outside calls may leave, of states that are as P says
abbrev pub Fallen : {C R : Type 0} (j : Judge C R) → (j.State → Type 0) → j.State → Type 0
Fallen j P u = (s : j.State) × P s × j.Down s u

-- how many stretches did not end with all whole, after one more
abbrev pub counted : Bool → ℕ → ℕ
counted whole n = cond whole n (suc n)

-- The invariant has two parts.
-- Off P ws d: while the power is off the drives may be d, if any state in P is still possible. There may be several: which one it is, the opening decides.
-- On s n ws m d: with m in memory they may be d, if the state is s and n stretches did not end with all whole.
pub record Refines {C R : Type 0} (j : Judge C R) (e : Machine C R) (size : ℕ) (Off : (j.State → Type 0) → List ℕ → Drives → Type 0) (On : j.State → ℕ → List ℕ → e.Mem → Drives → Type 0) : Type 1 where
  pub begins : Off (λ s. s ≡ j.start) [] (λ i. there blank_drive)
  pub some_state : {P : j.State → Type 0} {ws : List ℕ} {d : Drives} → Few ws → Off P ws d → (s : j.State) × P s
  pub opens : {P : j.State → Type 0} {ws : List ℕ} {d : Drives} → Few ws → Off P ws d → Does (Cuts (Off (Fallen j P) ws)) (λ m f. (s : j.State) × P s × On s 0 ws m f) (e.opens size) d
  pub calls : (c : C) {s : j.State} {n : ℕ} {ws : List ℕ} {m : e.Mem} {d : Drives} → Few ws → On s n ws m d →
      Does (Cuts (Off (j.Cut c s) ws)) (λ x f. (t : j.State) × j.Answers c s x.reply t × On t n ws x.mem f) (e.does c m) d
  pub mends : {s : j.State} {n : ℕ} {ws : List ℕ} {m : e.Mem} {d : Drives} → Few ws → On s n ws m d →
      Does (Cuts (Off (j.Down s) ws)) (λ x f. (x.whole ≡ false → suc n < size) × On s (counted x.whole n) (weak_after x.whole f ws) x.mem f) (e.mends m) d
  pub rests : {s : j.State} {n : ℕ} {ws : List ℕ} {m : e.Mem} {d : Drives} → Few ws → On s n ws m d → Cuts (Off (j.Down s) ws) d
  pub loses_off : {P : j.State → Type 0} {ws : List ℕ} {d : Drives} (i : ℕ) → i < 6 → Off P ws d → Off P (i ∷ without i ws) (put i gone d)
  pub loses_on : {s : j.State} {n : ℕ} {ws : List ℕ} {m : e.Mem} {d : Drives} (i : ℕ) → i < 6 → On s n ws m d → On s 0 (i ∷ without i ws) m (put i gone d)
  pub replaces_off : {P : j.State → Type 0} {ws : List ℕ} {d : Drives} (i : ℕ) → i < 6 → d i ≡ gone → Off P ws d → Off P ws (put i (there blank_drive) d)
  pub replaces_on : {s : j.State} {n : ℕ} {ws : List ℕ} {m : e.Mem} {d : Drives} (i : ℕ) → i < 6 → d i ≡ gone → On s n ws m d → On s 0 ws m (put i (there blank_drive) d)

-- the same for bounds: where the invariant holds, all that is done next is fair, and a stretch is short
pub record Bounded {C R : Type 0} (j : Judge C R) (e : Machine C R) (size : ℕ) (Off : (j.State → Type 0) → List ℕ → Drives → Type 0) (On : j.State → ℕ → List ℕ → e.Mem → Drives → Type 0) : Type 1 where
  pub opening : {P : j.State → Type 0} {ws : List ℕ} {d : Drives} → Off P ws d → Fair size (e.opens size) d
  pub calling : (c : C) {s : j.State} {n : ℕ} {ws : List ℕ} {m : e.Mem} {d : Drives} → On s n ws m d → Fair size (e.does c m) d
  pub mending : {s : j.State} {n : ℕ} {ws : List ℕ} {m : e.Mem} {d : Drives} → On s n ws m d → Fair size (e.mends m) d × (ops_of (e.mends m) d ≤ longest)

-- A machine, its judge and an invariant at each size, for which all the obligations hold.
pub record Refinement : Type 1 where
  pub C : Type 0
  pub R : Type 0
  pub j : ℕ → Judge C R
  pub e : Machine C R
  pub Off : (size : ℕ) → ((j size).State → Type 0) → List ℕ → Drives → Type 0
  pub On : (size : ℕ) → (j size).State → ℕ → List ℕ → e.Mem → Drives → Type 0
  pub refines : (size : ℕ) → smallest ≤ size → size ≤ largest → Refines (j size) e size (Off size) (On size)
  pub bounded : (size : ℕ) → smallest ≤ size → size ≤ largest → Bounded (j size) e size (Off size) (On size)

-- WHAT REFINES KEEPS: such a machine keeps to its judge and stays within bounds.
abbrev pub KeepsAt : Refinement → Type 0
KeepsAt g = Keeps g.j g.e × Within g.e
