-- Layers: code that uses a machine below it by calls only. It is proved over the judge of that machine, and then holds over every machine that keeps to the judge.
-- Assumes nothing.
use Rattle.std.specs.Prelude.{List, [], ◌∷◌, ℕ, ◌≤◌}
use Rattle.drives.specs.Drives.{smallest, largest, Io, answer, then'}
use Rattle.drives.specs.Machines.{Machine, Judge, Keeps, Within}

-- A plan asks the machine below, call by call, and ends with what it gives.
pub data Plan (C R A : Type 0) : Type 0 where
  gives : A → Plan C R A
  asks : C → (R → Plan C R A) → Plan C R A

-- Calls C' answered by replies R', through calls C below. It mends nothing: that is done below.
pub record Layer (C R C' R' : Type 0) : Type 1 where
  pub Mem : Type 0
  pub comes_up : ℕ → Plan C R Mem
  pub answers : C' → Mem → Plan C R (record { reply : R'; mem : Mem })

-- A plan carried out by a machine, as a program.
unfoldable pub through : {C R A : Type 0} → (e : Machine C R) → Plan C R A → e.Mem → Io (record { value : A; below : e.Mem })
through e (gives a) m = answer (record { value = a; below = m })
through e (asks c k) m = then' (e.does c m) (λ x. through e (k x.reply) x.mem)

-- A layer over a machine is a machine.
abbrev pub over : {C R C' R' : Type 0} → Machine C R → Layer C R C' R' → Machine C' R'
over {C} {R} {C'} {R'} e l =
    record {
      Mem = record { below : e.Mem; above : l.Mem };
      opens = λ size. then' (e.opens size) (λ m. then' (through e (l.comes_up size) m) (λ x. answer (record { below = x.below; above = x.value })));
      does = λ c m. then' (through e (l.answers c m.above) m.below) (λ x. answer (record { reply = x.value.reply; mem = record { below = x.below; above = x.value.mem } }));
      mends = λ m. then' (e.mends m.below) (λ x. answer (record { whole = x.whole; mem = record { below = x.mem; above = m.above } }));
    }

-- Comes j p s a t: carried out over the judge j from s, the plan p may give a and leave t.
pub data Comes {C R A : Type 0} (j : Judge C R) : Plan C R A → j.State → A → j.State → Type 0 where
  ends : {a : A} {s : j.State} → Comes j (gives a) s a s
  goes_on : {c : C} {k : R → Plan C R A} {r : R} {a : A} {s t u : j.State} → j.Answers c s r t → Comes j (k r) t a u → Comes j (asks c k) s a u

-- CutShort j p s u: cut before, in or after any of its calls, it may leave u.
pub data CutShort {C R A : Type 0} (j : Judge C R) : Plan C R A → j.State → j.State → Type 0 where
  at_once : {p : Plan C R A} {s u : j.State} → j.Down s u → CutShort j p s u
  in_call : {c : C} {k : R → Plan C R A} {s u : j.State} → j.Cut c s u → CutShort j (asks c k) s u
  later : {c : C} {k : R → Plan C R A} {r : R} {s t u : j.State} → j.Answers c s r t → CutShort j (k r) t u → CutShort j (asks c k) s u

-- What a layer sees: calls and cuts. Drives and mending are below it.
pub data AboveEvent (C' R' : Type 0) : Type 0 where
  did : C' → R' → AboveEvent C' R'
  cut_doing : C' → AboveEvent C' R'
  cut_beside : AboveEvent C' R'

pub data Stands {C R C' R' : Type 0} (j : Judge C R) (l : Layer C R C' R') : Type 0 where
  down : j.State → Stands j l
  up : l.Mem → j.State → Stands j l

-- All that can happen to a layer over a judge, the latest first.
pub data Above {C R C' R' : Type 0} (j : Judge C R) (l : Layer C R C' R') (size : ℕ) : List (AboveEvent C' R') → Stands j l → Type 0 where
  first : Above j l size [] (down j.start)
  rises : {es : List (AboveEvent C' R')} {m : l.Mem} {s t : j.State} → Above j l size es (down s) → Comes j (l.comes_up size) s m t → Above j l size es (up m t)
  rise_cut : {es : List (AboveEvent C' R')} {s u : j.State} → Above j l size es (down s) → CutShort j (l.comes_up size) s u → Above j l size (cut_beside ∷ es) (down u)
  does : {es : List (AboveEvent C' R')} {m : l.Mem} {s t : j.State} (c : C') (x : record { reply : R'; mem : l.Mem }) → Above j l size es (up m s) → Comes j (l.answers c m) s x t →
      Above j l size (did c x.reply ∷ es) (up x.mem t)
  does_cut : {es : List (AboveEvent C' R')} {m : l.Mem} {s u : j.State} (c : C') → Above j l size es (up m s) → CutShort j (l.answers c m) s u → Above j l size (cut_doing c ∷ es) (down u)
  cut_now : {es : List (AboveEvent C' R')} {m : l.Mem} {s u : j.State} → Above j l size es (up m s) → j.Down s u → Above j l size (cut_beside ∷ es) (down u)

pub data AllowedAbove {C' R' : Type 0} (j : Judge C' R') : List (AboveEvent C' R') → j.State → Type 0 where
  at_first : AllowedAbove j [] j.start
  answers : {es : List (AboveEvent C' R')} {s t : j.State} {k : C'} {r : R'} → AllowedAbove j es s → j.Answers k s r t → AllowedAbove j (did k r ∷ es) t
  was_cut : {es : List (AboveEvent C' R')} {s u : j.State} {k : C'} → AllowedAbove j es s → j.Cut k s u → AllowedAbove j (cut_doing k ∷ es) u
  fell : {es : List (AboveEvent C' R')} {s u : j.State} → AllowedAbove j es s → j.Down s u → AllowedAbove j (cut_beside ∷ es) u

-- A layer over the judge j keeps to the judge j'.
abbrev pub KeepsAbove : {C R C' R' : Type 0} → (ℕ → Judge C R) → (ℕ → Judge C' R') → Layer C R C' R' → Type 0
KeepsAbove {C} {R} {C'} {R'} j j' l =
    (size : ℕ) → smallest ≤ size → size ≤ largest → (es : List (AboveEvent C' R')) (w : Stands (j size) l) → Above (j size) l size es w → (s : (j' size).State) × AllowedAbove (j' size) es s

-- LAYERS COMPOSE: a layer that is right above a judge is right above every machine that keeps to it.
abbrev pub LayersCompose : Type 1
LayersCompose =
    (C R C' R' : Type 0) (j : ℕ → Judge C R) (j' : ℕ → Judge C' R') (e : Machine C R) (l : Layer C R C' R') → Keeps j e → KeepsAbove j j' l → Keeps j' (over e l)

-- LAYERS STAY WITHIN: a layer asks nothing of the drives but through the machine below, so it is as fair as that is, and its stretches are no longer.
abbrev pub LayersStayWithin : Type 1
LayersStayWithin = (C R C' R' : Type 0) (e : Machine C R) (l : Layer C R C' R') → Within e → Within (over e l)

-- A contract can't speak of all types at once. So it cites each theorem at one setting, which is whatever the caller gives.
pub record Setting : Type 1 where
  pub C : Type 0
  pub R : Type 0
  pub C' : Type 0
  pub R' : Type 0
  pub j : ℕ → Judge C R
  pub j' : ℕ → Judge C' R'
  pub e : Machine C R
  pub l : Layer C R C' R'

abbrev pub ComposeAt : Setting → Type 0
ComposeAt g = Keeps g.j g.e → KeepsAbove g.j g.j' g.l → Keeps g.j' (over g.e g.l)

abbrev pub WithinAt : Setting → Type 0
WithinAt g = Within g.e → Within (over g.e g.l)
