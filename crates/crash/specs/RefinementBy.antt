-- What a machine on six drives is shown by, where mending ends within fewer stretches than a drive has sectors, and where drives hold whole sectors.
-- Assumes nothing.
use Rattle.std.specs.Prelude.{◌≡◌, false, ℕ, suc, ◌<◌, ◌≤◌, T, length}
use mathlib.Core.List.{List, [], ◌∷◌, Memᴰ}
use Rattle.drives.specs.Drives.{smallest, largest, blank_drive, Drive, Slot, gone, there, Drives, put, all_bytes, Fair, ops_of}
use Rattle.drives.specs.Machines.{longest, Machine, Judge, without, weak_after, KeepsBy, Within}
use Rattle.crash.specs.Refinement.{Does, Cuts, Few, Fallen, counted}

-- a whole sector of bytes
abbrev pub IsSector : List ℕ → Type 0
IsSector b = (length b ≡ 512) × T (all_bytes b)

-- Whole d: whatever a drive that is there may hold, after a cut too, is whole sectors. So it is wherever only fair programs ran.
pub data WholeSlot : Slot → Type 0 where
  no_drive : WholeSlot gone
  sectors : {x : Drive} → ((s : ℕ) → IsSector (x.kept s)) → ((s : ℕ) (b : List ℕ) → Memᴰ b (x.since s) → IsSector b) → WholeSlot (there x)

abbrev pub Whole : Drives → Type 0
Whole d = (i : ℕ) → WholeSlot (d i)

-- The invariant has two parts.
-- Off P ws d: while the power is off the drives may be d, if any state in P is still possible. There may be several: which one it is, the opening decides.
-- On s n ws m d: with m in memory they may be d, if the state is s and n stretches did not end with all whole. There are never as many as `most`.
pub record RefinesBy {C R : Type 0} (j : Judge C R) (e : Machine C R) (size most : ℕ) (Off : (j.State → Type 0) → List ℕ → Drives → Type 0) (On : j.State → ℕ → List ℕ → e.Mem → Drives → Type 0) : Type 1 where
  pub begins : Off (λ s. s ≡ j.start) [] (λ i. there blank_drive)
  pub some_state : {P : j.State → Type 0} {ws : List ℕ} {d : Drives} → Few ws → Off P ws d → (s : j.State) × P s
  pub opens : {P : j.State → Type 0} {ws : List ℕ} {d : Drives} → Few ws → Off P ws d → Does (Cuts (Off (Fallen j P) ws)) (λ m f. (s : j.State) × P s × On s 0 ws m f) (e.opens size) d
  pub calls : (c : C) {s : j.State} {n : ℕ} {ws : List ℕ} {m : e.Mem} {d : Drives} → Few ws → On s n ws m d →
      Does (Cuts (Off (j.Cut c s) ws)) (λ x f. (t : j.State) × j.Answers c s x.reply t × On t n ws x.mem f) (e.does c m) d
  pub mends : {s : j.State} {n : ℕ} {ws : List ℕ} {m : e.Mem} {d : Drives} → Few ws → Whole d → On s n ws m d →
      Does (Cuts (Off (j.Down s) ws)) (λ x f. (x.whole ≡ false → suc n < most) × On s (counted x.whole n) (weak_after x.whole f ws) x.mem f) (e.mends m) d
  pub rests : {s : j.State} {n : ℕ} {ws : List ℕ} {m : e.Mem} {d : Drives} → Few ws → On s n ws m d → Cuts (Off (j.Down s) ws) d
  pub loses_off : {P : j.State → Type 0} {ws : List ℕ} {d : Drives} (i : ℕ) → i < 6 → Off P ws d → Off P (i ∷ without i ws) (put i gone d)
  pub loses_on : {s : j.State} {n : ℕ} {ws : List ℕ} {m : e.Mem} {d : Drives} (i : ℕ) → i < 6 → On s n ws m d → On s 0 (i ∷ without i ws) m (put i gone d)
  pub replaces_off : {P : j.State → Type 0} {ws : List ℕ} {d : Drives} (i : ℕ) → i < 6 → d i ≡ gone → Off P ws d → Off P ws (put i (there blank_drive) d)
  pub replaces_on : {s : j.State} {n : ℕ} {ws : List ℕ} {m : e.Mem} {d : Drives} (i : ℕ) → i < 6 → d i ≡ gone → On s n ws m d → On s 0 ws m (put i (there blank_drive) d)

-- the same for bounds: where the invariant holds, all that is done next is fair, and a stretch is short
pub record BoundedBy {C R : Type 0} (j : Judge C R) (e : Machine C R) (size : ℕ) (Off : (j.State → Type 0) → List ℕ → Drives → Type 0) (On : j.State → ℕ → List ℕ → e.Mem → Drives → Type 0) : Type 1 where
  pub opening : {P : j.State → Type 0} {ws : List ℕ} {d : Drives} → Few ws → Whole d → Off P ws d → Fair size (e.opens size) d
  pub calling : (c : C) {s : j.State} {n : ℕ} {ws : List ℕ} {m : e.Mem} {d : Drives} → Few ws → Whole d → On s n ws m d → Fair size (e.does c m) d
  pub mending : {s : j.State} {n : ℕ} {ws : List ℕ} {m : e.Mem} {d : Drives} → Few ws → Whole d → On s n ws m d → Fair size (e.mends m) d × (ops_of (e.mends m) d ≤ longest)

-- A machine, its judge and an invariant at each size, for which all the obligations hold.
pub record RefinementBy : Type 1 where
  pub C : Type 0
  pub R : Type 0
  pub j : ℕ → Judge C R
  pub e : Machine C R
  pub most : ℕ → ℕ
  pub Off : (size : ℕ) → ((j size).State → Type 0) → List ℕ → Drives → Type 0
  pub On : (size : ℕ) → (j size).State → ℕ → List ℕ → e.Mem → Drives → Type 0
  pub refines : (size : ℕ) → smallest ≤ size → size ≤ largest → RefinesBy (j size) e size (most size) (Off size) (On size)
  pub bounded : (size : ℕ) → smallest ≤ size → size ≤ largest → BoundedBy (j size) e size (Off size) (On size)

-- WHAT REFINES SO KEEPS: such a machine keeps to its judge, mending ends within the stretches that it says, and it stays within bounds.
abbrev pub KeepsByAt : RefinementBy → Type 0
KeepsByAt g = KeepsBy g.most g.j g.e × Within g.e
