-- Weak drives: those that were lost and not yet said to be whole again. There are never more than two.
-- Assumes nothing.
use mathlib.Core.Path.{◌≡◌, refl, sym, ap, subst}
use mathlib.Core.Logic.{◌⊎◌, inl, inr}
use mathlib.Core.Bool.{Bool, true, false, cond}
use mathlib.Core.List.Memᴰ
use mathlib.Core.List.{List, [], ◌∷◌, Memᴰ}
use Prim.Native.Nat.{ℕ, suc, ◌<◌, ◌≤◌}
use native.Mathlib.Omega.{arith}
use lib.Dec.{eqb}
use lib.ListN.{length}
use Rattle.drives.specs.Drives.{gone, Drives}
use Rattle.drives.specs.Machines.{without, is_gone, still_gone, weak_after}
use Rattle.crash.specs.Refinement.{Few}
use Rattle.crash.proofs.Updates.{eqb-true, same?}

abbrev pub Weak : List ℕ → ℕ → Type 0
Weak ws i = Memᴰ i ws

-- a drive that is lost is weak, and so is every drive that was
pub weak_lost : (i : ℕ) (ws : List ℕ) → Weak (i ∷ without i ws) i
weak_lost i ws = Memᴰ.head refl

pub weak_still : (i : ℕ) (ws : List ℕ) {j : ℕ} → Weak ws j → Weak (i ∷ without i ws) j
unfolding without
weak_still i ws {j} m = go (same? j i)
  where
    keep : (ws : List ℕ) → (j ≡ i → ⊥) → Weak ws j → Weak (without i ws) j
    keep [] n m = elim m [ ]
    keep (k ∷ ks) n (Memᴰ.head p) = at (eqb i k) refl
      where
        at : (b : Bool) → eqb i k ≡ b → Weak (cond b (without i ks) (k ∷ without i ks)) j
        at true e = absurd (n (subst (λ (x : ℕ). j ≡ x) (sym (eqb-true i k e)) p))
        at false e = Memᴰ.head p
    keep (k ∷ ks) n (Memᴰ.tail m) = at (eqb i k) (keep ks n m)
      where
        at : (b : Bool) → Weak (without i ks) j → Weak (cond b (without i ks) (k ∷ without i ks)) j
        at true h = h
        at false h = Memᴰ.tail h

    go : (j ≡ i) ⊎ (j ≡ i → ⊥) → Weak (i ∷ without i ws) j
    go (inl p) = Memᴰ.head p
    go (inr n) = Memᴰ.tail (keep ws n m)

-- once all is whole, the weak drives that are gone are weak still
pub weak_gone : (i : ℕ) (d : Drives) (ws : List ℕ) → d i ≡ gone → Weak ws i → Weak (still_gone d ws) i
unfolding still_gone is_gone
weak_gone i d [] g m = elim m [ ]
weak_gone i d (k ∷ ks) g (Memᴰ.head p) = subst (λ b. Weak (cond b (k ∷ still_gone d ks) (still_gone d ks)) i) (sym (ap is_gone (subst (λ j. d j ≡ gone) p g))) (Memᴰ.head p)
weak_gone i d (k ∷ ks) g (Memᴰ.tail m) = at (is_gone (d k)) (weak_gone i d ks g m)
  where
    at : (b : Bool) → Weak (still_gone d ks) i → Weak (cond b (k ∷ still_gone d ks) (still_gone d ks)) i
    at true h = Memᴰ.tail h
    at false h = h

still_fewer : (d : Drives) (ws : List ℕ) → length (still_gone d ws) ≤ length ws
unfolding still_gone
still_fewer d [] = omega arith
still_fewer d (k ∷ ks) = at (is_gone (d k)) (still_fewer d ks)
  where
    at : (b : Bool) → length (still_gone d ks) ≤ length ks → length (cond b (k ∷ still_gone d ks) (still_gone d ks)) ≤ suc (length ks)
    at true h = omega arith
    at false h = omega arith

pub few_after : (whole : Bool) (d : Drives) (ws : List ℕ) → Few ws → Few (weak_after whole d ws)
few_after true d ws l = omega (arith, still_fewer d ws)
few_after false d ws l = l

-- of any three drives one is not weak
pub not_three : (ws : List ℕ) → Few ws → (i j k : ℕ) → i < j → j < k → Weak ws i → Weak ws j → Weak ws k → ⊥
not_three [] l i j k a b x y z = Memᴰ.not-nil x
not_three (v ∷ []) l i j k a b x y z = omega (arith, one x, one y)
  where
    one : {m : ℕ} → Weak (v ∷ []) m → m ≡ v
    one (Memᴰ.head p) = p
    one (Memᴰ.tail m) = absurd (Memᴰ.not-nil m)
not_three (v ∷ w ∷ []) l i j k a b x y z = omega (arith, two x, two y, two z)
  where
    two : {m : ℕ} → Weak (v ∷ w ∷ []) m → (m ≡ v) ⊎ (m ≡ w)
    two (Memᴰ.head p) = inl p
    two (Memᴰ.tail (Memᴰ.head p)) = inr p
    two (Memᴰ.tail (Memᴰ.tail m)) = absurd (Memᴰ.not-nil m)
not_three (u ∷ v ∷ w ∷ ws) l i j k a b x y z = omega arith
