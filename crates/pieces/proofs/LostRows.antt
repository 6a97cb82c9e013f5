-- The coefficients of each piece, where another is lost too.
-- Assumes nothing.
use Prim.Native.Nat.{ℕ, zero, suc, ◌<◌}
use native.Mathlib.Omega.{arith}
use mathlib.Core.Path.{◌≡◌, refl}
use Rattle.field.specs.Field.{double, by, times, row, dot}
use Rattle.field.specs.Stripe.{inverse, lost_row}

-- with Q lost too, a piece is the sum of the others
pub sum_row : (t : ℕ) → t < 5 → lost_row t 5 ≡ row 1 1 1 1
unfolding lost_row inverse dot times by double
sum_row zero h = refl
sum_row (suc zero) h = refl
sum_row (suc (suc zero)) h = refl
sum_row (suc (suc (suc zero))) h = refl
sum_row (suc (suc (suc (suc zero)))) h = refl
sum_row (suc (suc (suc (suc (suc t))))) h = absurd (omega arith)

-- with another lost than Q: worked out here, since `fill_lost` took several times as long to unfold them itself
pub rows_of_first : (lost_row 0 1 ≡ row 2 6 245 244) × ((lost_row 0 2 ≡ row 245 247 166 167) × ((lost_row 0 3 ≡ row 187 210 156 157) × (lost_row 0 4 ≡ row 2 4 8 1)))
unfolding lost_row inverse dot times by double
rows_of_first = (refl, (refl, (refl, refl)))

pub rows_of_second : (lost_row 1 0 ≡ row 3 7 244 244) × ((lost_row 1 2 ≡ row 143 2 245 122) × ((lost_row 1 3 ≡ row 123 245 166 221) × (lost_row 1 4 ≡ row 142 2 4 142)))
unfolding lost_row inverse dot times by double
rows_of_second = (refl, (refl, (refl, refl)))

pub rows_of_third : (lost_row 2 0 ≡ row 244 246 167 167) × ((lost_row 2 1 ≡ row 142 3 244 122) × ((lost_row 2 3 ≡ row 200 143 245 61) × (lost_row 2 4 ≡ row 71 142 2 71)))
unfolding lost_row inverse dot times by double
rows_of_third = (refl, (refl, (refl, refl)))

pub rows_of_fourth : (lost_row 3 0 ≡ row 186 211 157 157) × ((lost_row 3 1 ≡ row 122 244 167 221) × ((lost_row 3 2 ≡ row 201 142 244 61) × (lost_row 3 4 ≡ row 173 71 142 173)))
unfolding lost_row inverse dot times by double
rows_of_fourth = (refl, (refl, (refl, refl)))

pub rows_of_p : (lost_row 4 0 ≡ row 3 5 9 1) × ((lost_row 4 1 ≡ row 143 3 5 142) × ((lost_row 4 2 ≡ row 70 143 3 71) × (lost_row 4 3 ≡ row 172 70 143 173)))
unfolding lost_row inverse dot times by double
rows_of_p = (refl, (refl, (refl, refl)))

pub rows_of_q : (lost_row 5 0 ≡ row 3 5 9 1) × ((lost_row 5 1 ≡ row 3 6 10 2) × ((lost_row 5 2 ≡ row 5 6 12 4) × ((lost_row 5 3 ≡ row 9 10 12 8) × (lost_row 5 4 ≡ row 1 2 4 8))))
unfolding lost_row inverse dot times by double
rows_of_q = (refl, (refl, (refl, (refl, refl))))
