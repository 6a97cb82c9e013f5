-- How many others are weak.
-- Assumes nothing.
use Rattle.std.proofs.Common.{◌≡◌, ℕ, suc, ◌+◌, Bool, true, false, cond, not, ◌&&◌, eqb, List, [], ◌∷◌, length, refl, ap}
use Rattle.std.specs.List.{filter, enumerate_from}
use Rattle.drives.specs.Machines.{without}
use Rattle.script.specs.Weaks.{weak_from}

-- a drive with its number is weak, and another than d
abbrev pub is_other : ℕ → ℕ × Bool → Bool
is_other d p = p.1 && not (eqb d p.0)

pub others_are : (d i : ℕ) (ws : List Bool) → length (filter (is_other d) (enumerate_from i ws)) ≡ length (without d (weak_from i ws))
unfolding weak_from without
others_are d i [] = refl
others_are d i (true ∷ ws) = go (eqb d i) (others_are d (i + 1) ws)
  where
    go : (v : Bool) → length (filter (is_other d) (enumerate_from (i + 1) ws)) ≡ length (without d (weak_from (i + 1) ws)) →
        length (cond (not v) ((i, true) ∷ filter (is_other d) (enumerate_from (i + 1) ws)) (filter (is_other d) (enumerate_from (i + 1) ws))) ≡ length (cond v (without d (weak_from (i + 1) ws)) (i ∷ without d (weak_from (i + 1) ws)))
    go true e = e
    go false e = ap suc e
others_are d i (false ∷ ws) = others_are d (i + 1) ws
