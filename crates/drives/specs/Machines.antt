-- Machines on six drives, all that can happen to them, and what it is to keep to a judge through all of it.
-- Assumes nothing.
use Rattle.std.specs.Prelude.{◌≡◌, Bool, true, false, cond, List, [], ◌∷◌, ℕ, suc, ◌<◌, ◌≤◌, eqb, length}
use Rattle.drives.specs.Drives.{smallest, largest, blank_drive, Slot, gone, there, Drives, put, AfterCut, Io, run, Upto, ops_of, Fair}

-- Code that answers calls C by replies R. Mem: what it keeps in memory, which a cut takes; opens: how it comes up on drives of a size; does: a call; mends: one stretch.
-- A stretch is one bounded piece of the work of filling drives that were replaced. It answers whether all is whole: whether each drive that is there has all that it should.
pub record Machine (C R : Type 0) : Type 1 where
  pub Mem : Type 0
  pub opens : ℕ → Io Mem
  pub does : C → Mem → Io (record { reply : R; mem : Mem })
  pub mends : Mem → Io (record { whole : Bool; mem : Mem })

-- What can be seen of a machine from outside. A cut falls in a call, or else: while opening, mending or at rest.
pub data Event (C R : Type 0) : Type 0 where
  called : C → R → Event C R
  mended : (whole : Bool) → Event C R
  cut_in : C → Event C R
  cut_else : Event C R
  lost replaced : (drive : ℕ) → Event C R

pub data World {C R : Type 0} (e : Machine C R) : Type 0 where
  off : Drives → World e
  on : e.Mem → Drives → World e

-- A drive is weak from when it is lost until a machine that has it back says that all is whole.
unfoldable pub without : ℕ → List ℕ → List ℕ
without i [] = []
without i (j ∷ js) = cond (eqb i j) (without i js) (j ∷ without i js)

unfoldable pub is_gone : Slot → Bool
is_gone gone = true
is_gone (there d) = false

unfoldable pub still_gone : Drives → List ℕ → List ℕ
still_gone d [] = []
still_gone d (i ∷ is) = cond (is_gone (d i)) (i ∷ still_gone d is) (still_gone d is)

abbrev pub weak_after : Bool → Drives → List ℕ → List ℕ
weak_after b d ws = cond b (still_gone d ws) ws

-- All that can happen, the latest event first. A cut can fall anywhere. A drive is lost or replaced while the power is off or between calls, unseen by the machine, and lost only while fewer than two others are weak.
pub data Trace {C R : Type 0} (e : Machine C R) (size : ℕ) : List (Event C R) → (weak : List ℕ) → World e → Type 0 where
  begin : Trace e size [] [] (off (λ i. there blank_drive))
  opened : {es : List (Event C R)} {ws : List ℕ} {d : Drives} → Trace e size es ws (off d) → Trace e size es ws (on (run (e.opens size) d).value (run (e.opens size) d).drives)
  opening_cut : {es : List (Event C R)} {ws : List ℕ} {d f g : Drives} → Trace e size es ws (off d) → Upto (e.opens size) d f → AfterCut f g → Trace e size (cut_else ∷ es) ws (off g)
  answered : {es : List (Event C R)} {ws : List ℕ} {m : e.Mem} {d : Drives} (c : C) → Trace e size es ws (on m d) →
      Trace e size (called c (run (e.does c m) d).value.reply ∷ es) ws (on (run (e.does c m) d).value.mem (run (e.does c m) d).drives)
  call_cut : {es : List (Event C R)} {ws : List ℕ} {m : e.Mem} {d f g : Drives} (c : C) → Trace e size es ws (on m d) → Upto (e.does c m) d f → AfterCut f g → Trace e size (cut_in c ∷ es) ws (off g)
  between_cut : {es : List (Event C R)} {ws : List ℕ} {m : e.Mem} {d g : Drives} → Trace e size es ws (on m d) → AfterCut d g → Trace e size (cut_else ∷ es) ws (off g)
  mending : {es : List (Event C R)} {ws : List ℕ} {m : e.Mem} {d : Drives} → Trace e size es ws (on m d) →
      Trace e size (mended (run (e.mends m) d).value.whole ∷ es) (weak_after (run (e.mends m) d).value.whole (run (e.mends m) d).drives ws) (on (run (e.mends m) d).value.mem (run (e.mends m) d).drives)
  mending_cut : {es : List (Event C R)} {ws : List ℕ} {m : e.Mem} {d f g : Drives} → Trace e size es ws (on m d) → Upto (e.mends m) d f → AfterCut f g → Trace e size (cut_else ∷ es) ws (off g)
  loses_off : {es : List (Event C R)} {ws : List ℕ} {d : Drives} (i : ℕ) → i < 6 → length (without i ws) < 2 → Trace e size es ws (off d) → Trace e size (lost i ∷ es) (i ∷ without i ws) (off (put i gone d))
  loses_on : {es : List (Event C R)} {ws : List ℕ} {m : e.Mem} {d : Drives} (i : ℕ) → i < 6 → length (without i ws) < 2 → Trace e size es ws (on m d) → Trace e size (lost i ∷ es) (i ∷ without i ws) (on m (put i gone d))
  replaces_off : {es : List (Event C R)} {ws : List ℕ} {d : Drives} (i : ℕ) → i < 6 → d i ≡ gone → Trace e size es ws (off d) → Trace e size (replaced i ∷ es) ws (off (put i (there blank_drive) d))
  replaces_on : {es : List (Event C R)} {ws : List ℕ} {m : e.Mem} {d : Drives} (i : ℕ) → i < 6 → d i ≡ gone → Trace e size es ws (on m d) → Trace e size (replaced i ∷ es) ws (on m (put i (there blank_drive) d))

-- A judge says what calls mean, knowing nothing of drives: an abstract machine that the code is held to.
-- Answers c s r t: asked c in state s, it may reply r and go on in t; Down s u: a cut outside calls may leave u of s; Cut c s u: a cut in the call c may.
pub record Judge (C R : Type 0) : Type 1 where
  pub State : Type 0
  pub start : State
  pub Answers : C → State → R → State → Type 0
  pub Down : State → State → Type 0
  pub Cut : C → State → State → Type 0

-- The commonest judge: calls are atomic. A call that was cut was done, with whatever reply, or not done at all, and `down` says what a cut leaves of a state.
pub data DoneOrNot {C R State : Type 0} (Answers : C → State → R → State → Type 0) (down : State → State) : C → State → State → Type 0 where
  undone : {c : C} {s u : State} → u ≡ down s → DoneOrNot Answers down c s u
  done : {c : C} {r : R} {s t u : State} → Answers c s r t → u ≡ down t → DoneOrNot Answers down c s u

abbrev pub atomic : {C R : Type 0} (State : Type 0) → State → (C → State → R → State → Type 0) → (State → State) → Judge C R
atomic State start Answers down = record { State = State; start = start; Answers = Answers; Down = λ s u. u ≡ down s; Cut = DoneOrNot Answers down }

-- What a judge allows to be seen, and the state that it may then be in. Lost drives and mending never change what calls mean.
-- stretches: how many did not end with all whole since a drive was last lost or replaced or the power cut, whatever was called in between. They are fewer than `most`: mending comes to an end.
pub data Allowed {C R : Type 0} (j : Judge C R) (most : ℕ) : List (Event C R) → j.State → (stretches : ℕ) → Type 0 where
  at_first : Allowed j most [] j.start 0
  answers : {es : List (Event C R)} {s t : j.State} {n : ℕ} {k : C} {r : R} → Allowed j most es s n → j.Answers k s r t → Allowed j most (called k r ∷ es) t n
  was_cut : {es : List (Event C R)} {s u : j.State} {n : ℕ} {k : C} → Allowed j most es s n → j.Cut k s u → Allowed j most (cut_in k ∷ es) u 0
  fell : {es : List (Event C R)} {s u : j.State} {n : ℕ} → Allowed j most es s n → j.Down s u → Allowed j most (cut_else ∷ es) u 0
  works : {es : List (Event C R)} {s : j.State} {n : ℕ} → Allowed j most es s n → suc n < most → Allowed j most (mended false ∷ es) s (suc n)
  is_whole : {es : List (Event C R)} {s : j.State} {n : ℕ} → Allowed j most es s n → Allowed j most (mended true ∷ es) s n
  a_loss : {es : List (Event C R)} {s : j.State} {n i : ℕ} → Allowed j most es s n → Allowed j most (lost i ∷ es) s 0
  a_new_one : {es : List (Event C R)} {s : j.State} {n i : ℕ} → Allowed j most es s n → Allowed j most (replaced i ∷ es) s 0

-- A machine keeps to a judge: on drives of any size, whatever happens, all that is ever seen is allowed.
abbrev pub Keeps : {C R : Type 0} → (ℕ → Judge C R) → Machine C R → Type 0
Keeps {C} {R} j e =
    (size : ℕ) → smallest ≤ size → size ≤ largest → (es : List (Event C R)) (ws : List ℕ) (w : World e) → Trace e size es ws w → (s : (j size).State) × (n : ℕ) × Allowed (j size) size es s n

-- The same, where mending comes to its end within `most` stretches. Keeps is this within as many as a drive has sectors.
abbrev pub KeepsBy : {C R : Type 0} → (most : ℕ → ℕ) → (ℕ → Judge C R) → Machine C R → Type 0
KeepsBy {C} {R} most j e =
    (size : ℕ) → smallest ≤ size → size ≤ largest → (es : List (Event C R)) (ws : List ℕ) (w : World e) → Trace e size es ws w → (s : (j size).State) × (n : ℕ) × Allowed (j size) (most size) es s n

-- how many things one stretch may ask for, so that a call never waits long for mending
abbrev pub longest : ℕ
longest = 4096

-- A machine stays within bounds: wherever it may come to, all that it does next is fair, and a stretch is short.
abbrev pub Within : {C R : Type 0} → Machine C R → Type 0
Within {C} {R} e =
    (size : ℕ) → smallest ≤ size → size ≤ largest → (es : List (Event C R)) (ws : List ℕ) →
    ((d : Drives) → Trace e size es ws (off d) → Fair size (e.opens size) d) ×
    ((m : e.Mem) (d : Drives) → Trace e size es ws (on m d) → ((c : C) → Fair size (e.does c m) d) × Fair size (e.mends m) d × (ops_of (e.mends m) d ≤ longest))
