-- How a layer is shown to keep to a judge: by a relation between the states below and above, and one obligation for each kind of step.
-- Assumes nothing.
use Rattle.std.specs.Prelude.{ℕ, ◌≤◌}
use Rattle.drives.specs.Drives.{smallest, largest}
use Rattle.drives.specs.Machines.{Judge}
use Rattle.drives.specs.Layers.{Layer, Comes, CutShort, KeepsAbove}

-- A simulation. Off s a: while the power is off, s below stands for a above; On m s a: while it is on, s and what the layer has in memory do.
pub record Holds {C R C' R' : Type 0} (j : Judge C R) (j' : Judge C' R') (l : Layer C R C' R') (size : ℕ) (Off : j.State → j'.State → Type 0) (On : l.Mem → j.State → j'.State → Type 0) : Type 0 where
  pub begins : Off j.start j'.start
  pub rises : {s t : j.State} {m : l.Mem} {a : j'.State} → Off s a → Comes j (l.comes_up size) s m t → On m t a
  pub rise_cut : {s u : j.State} {a : j'.State} → Off s a → CutShort j (l.comes_up size) s u → (b : j'.State) × j'.Down a b × Off u b
  pub call : (c : C') {x : record { reply : R'; mem : l.Mem }} {s t : j.State} {m : l.Mem} {a : j'.State} →
      On m s a → Comes j (l.answers c m) s x t → (b : j'.State) × j'.Answers c a x.reply b × On x.mem t b
  pub call_cut : (c : C') {s u : j.State} {m : l.Mem} {a : j'.State} → On m s a → CutShort j (l.answers c m) s u → (b : j'.State) × j'.Cut c a b × Off u b
  pub falls : {s u : j.State} {m : l.Mem} {a : j'.State} → On m s a → j.Down s u → (b : j'.State) × j'.Down a b × Off u b

-- the judges, the layer, and the relation for each size
pub record Showing : Type 1 where
  pub C : Type 0
  pub R : Type 0
  pub C' : Type 0
  pub R' : Type 0
  pub j : ℕ → Judge C R
  pub j' : ℕ → Judge C' R'
  pub l : Layer C R C' R'
  pub Off : (size : ℕ) → (j size).State → (j' size).State → Type 0
  pub On : (size : ℕ) → l.Mem → (j size).State → (j' size).State → Type 0

abbrev pub HoldsAt : Showing → Type 0
HoldsAt g = (size : ℕ) → smallest ≤ size → size ≤ largest → Holds (g.j size) (g.j' size) g.l size (g.Off size) (g.On size)

abbrev pub KeepsAt : Showing → Type 0
KeepsAt g = HoldsAt g → KeepsAbove g.j g.j' g.l

-- WHAT IS SHOWN KEEPS: a layer for which all obligations hold, at every size, keeps to its judge.
abbrev pub ShownKeeps : Type 1
ShownKeeps = (g : Showing) → KeepsAt g
