-- The same calls and replies in other words.
-- Assumes nothing.
use Rattle.drives.specs.Machines.{Judge}
use Rattle.drives.specs.Layers.{gives, asks, Layer}

-- A judge is sane where a call that was cut may have been cut before it began, or after it ended.
pub record Sane {C R : Type 0} (j : Judge C R) : Type 0 where
  pub before : (c : C) {s u : j.State} → j.Down s u → j.Cut c s u
  pub after : (c : C) {r : R} {s t u : j.State} → j.Answers c s r t → j.Down t u → j.Cut c s u

module _ {C R C' R' : Type 0} (call : C' → C) (reply : R → R') where
  -- each call is asked as another, and its reply is given as another
  abbrev pub spelling : Layer C R C' R'
  spelling = record { Mem = Unit {0}; comes_up = λ size. gives tt; answers = λ c m. asks (call c) (λ r. gives (record { reply = reply r; mem = tt })) }

  -- a reply, spelled, to a call
  pub data Spelled (j : Judge C R) : C' → j.State → R' → j.State → Type 0 where
    spelled : {c : C'} {r : R} {s t : j.State} → j.Answers (call c) s r t → Spelled j c s (reply r) t

  abbrev pub spelt : Judge C R → Judge C' R'
  spelt j = record { State = j.State; start = j.start; Answers = Spelled j; Down = j.Down; Cut = λ c. j.Cut (call c) }
