-- Functions changed at one number.
-- Assumes nothing.
use mathlib.Core.Path.{◌≡◌, refl, sym, ap, subst, fun_ext}
use mathlib.Core.Logic.{◌⊎◌, inl, inr}
use mathlib.Core.Bool.{Bool, true, false, cond}
use Prim.Native.Nat.{ℕ}
use lib.Dec.{eqb, T, eqb→eq, eqb_refl}
use Rattle.drives.specs.Drives.{put}

pub eqb-true : (m n : ℕ) → eqb m n ≡ true → m ≡ n
eqb-true m n e = eqb→eq m n (subst T (sym e) tt)

pub eqb-false : (m n : ℕ) → eqb m n ≡ false → m ≡ n → ⊥
eqb-false m n e p = subst T e (subst (λ k. T (eqb m k)) p (eqb_refl m))

pub eqb_same : (n : ℕ) → eqb n n ≡ true
eqb_same n = go (eqb n n) (eqb_refl n)
  where
    go : (b : Bool) → T b → b ≡ true
    go true t = refl
    go false t = absurd t

pub same? : (m n : ℕ) → (m ≡ n) ⊎ (m ≡ n → ⊥)
same? m n = go (eqb m n) refl
  where
    go : (b : Bool) → eqb m n ≡ b → (m ≡ n) ⊎ (m ≡ n → ⊥)
    go true e = inl (eqb-true m n e)
    go false e = inr (eqb-false m n e)

-- what holds of the new value at its place, and of the old ones elsewhere, holds everywhere
pub put_elim : {A : Type 0} (P : A → Type 0) (i j : ℕ) (x : A) (f : ℕ → A) → (j ≡ i → P x) → ((j ≡ i → ⊥) → P (f j)) → P (put i x f j)
put_elim P i j x f y n = go (eqb j i) refl
  where
    go : (b : Bool) → eqb j i ≡ b → P (cond b x (f j))
    go true e = y (eqb-true j i e)
    go false e = n (eqb-false j i e)

pub put_at_lem : {A : Type 0} (i : ℕ) (x : A) (f : ℕ → A) → put i x f i ≡ x
put_at_lem i x f = ap (λ b. cond b x (f i)) (eqb_same i)

pub put_off : {A : Type 0} (i j : ℕ) (x : A) (f : ℕ → A) → (j ≡ i → ⊥) → put i x f j ≡ f j
put_off i j x f n = put_elim (λ y. y ≡ f j) i j x f (λ e. absurd (n e)) (λ m. refl)

pub put_same : {A : Type 0} (i : ℕ) (f : ℕ → A) → put i (f i) f ≡ f
put_same i f = fun_ext (λ j. put_elim (λ y. y ≡ f j) i j (f i) f (λ e. ap f (sym e)) (λ m. refl))
