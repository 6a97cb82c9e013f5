-- The rules by which turns are shown to be a plan, call by call.
-- Assumes nothing.
use Rattle.std.proofs.Common.{ℕ, zero, suc, ◌≤◌, Option, arith}
use Rattle.drives.specs.Layers.{Plan}
use Rattle.steps.specs.Stacks.{Asked, Plans}

module _ {C R U A : Type 0} {f : U → Option R → Asked U C} {T : U → A → Type 0} where
  -- more turns than enough are enough
  pub longer : {y : Asked U C} {p : Plan C R A} {m n : ℕ} → Plans f T m y p → m ≤ n → Plans f T n y p
  longer {n = zero} (Plans.ends t) h = absurd (omega arith)
  longer {n = suc n} (Plans.ends t) h = Plans.ends t
  longer {n = zero} (Plans.calls k) h = absurd (omega arith)
  longer {n = suc n} (Plans.calls k) h = Plans.calls (λ r. longer (k r) (omega arith))
