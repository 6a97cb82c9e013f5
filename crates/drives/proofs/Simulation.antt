-- A layer for which the obligations hold keeps to its judge: the relation is carried along all that can happen.
-- Assumes nothing.
use mathlib.Core.List.{List}
use Prim.Native.Nat.{ℕ, ◌≤◌}
use Rattle.drives.specs.Drives.{smallest, largest}
use Rattle.drives.specs.Machines.{Judge}
use Rattle.drives.specs.Layers.{Layer, AboveEvent, Stands, Above, AllowedAbove, KeepsAbove}
use Rattle.drives.specs.Simulation.{Holds, ShownKeeps}

module _ {C R C' R' : Type 0} {j : Judge C R} {j' : Judge C' R'} {l : Layer C R C' R'} {size : ℕ} {Off : j.State → j'.State → Type 0} {On : l.Mem → j.State → j'.State → Type 0} (h : Holds j j' l size Off On) where
  abbrev Between : Stands j l → j'.State → Type 0
  Between (Stands.down s) a = Off s a
  Between (Stands.up m s) a = On m s a

  holds : {es : List (AboveEvent C' R')} {w : Stands j l} → Above j l size es w → (a : j'.State) × AllowedAbove j' es a × Between w a
  holds Above.first = (j'.start, AllowedAbove.at_first, h.begins)
  holds (Above.rises t q) = let (a, k, i) = holds t in (a, k, h.rises i q)
  holds (Above.rise_cut t q) = let (a, k, i) = holds t in let (b, f, i') = h.rise_cut i q in (b, AllowedAbove.fell k f, i')
  holds (Above.does c x t q) = let (a, k, i) = holds t in let (b, r, i') = h.call c i q in (b, AllowedAbove.answers k r, i')
  holds (Above.does_cut c t q) = let (a, k, i) = holds t in let (b, f, i') = h.call_cut c i q in (b, AllowedAbove.was_cut k f, i')
  holds (Above.cut_now t f) = let (a, k, i) = holds t in let (b, f', i') = h.falls i f in (b, AllowedAbove.fell k f', i')

pub keeps_above : {C R C' R' : Type 0} {j : ℕ → Judge C R} {j' : ℕ → Judge C' R'} {l : Layer C R C' R'} {Off : (size : ℕ) → (j size).State → (j' size).State → Type 0} {On : (size : ℕ) → l.Mem → (j size).State → (j' size).State → Type 0} →
    ((size : ℕ) → smallest ≤ size → size ≤ largest → Holds (j size) (j' size) l size (Off size) (On size)) → KeepsAbove j j' l
keeps_above h size lo hi es w t = let (a, k, i) = holds (h size lo hi) t in (a, k)

pub shown_keeps : ShownKeeps
shown_keeps g = keeps_above
