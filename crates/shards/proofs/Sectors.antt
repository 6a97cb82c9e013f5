-- Whole sectors of bytes, as drives speak of them and as the field does.
-- Assumes nothing.
use Rattle.std.proofs.Common.{◌≡◌, ℕ, zero, suc, ◌<◌, T, ltb, List, [], ◌∷◌, length, refl, ap, subst, arith, ltb→lt, lt→ltb}
use Rattle.drives.specs.Drives.{all_bytes}
use Rattle.field.specs.Code.{lengths}
use Rattle.field.specs.Stripe.{piece_at}
use Rattle.field.proofs.Pieces.{Good, and_left, and_right, and_both, lengths_first, lengths_rest}

pub good_sector : (n : ℕ) (x : List ℕ) → Good n x → (length x ≡ n) × T (all_bytes x)
unfolding all_bytes
good_sector zero [] g = (refl, tt)
good_sector zero (x ∷ xs) g = absurd g
good_sector (suc n) [] g = absurd g
good_sector (suc n) (x ∷ xs) g = let h = good_sector n xs g.1 in (ap suc h.0, and_both (ltb x 256) (all_bytes xs) (lt→ltb x 256 g.0) h.1)

good_bytes : (x : List ℕ) → T (all_bytes x) → Good (length x) x
unfolding all_bytes
good_bytes [] t = tt
good_bytes (x ∷ xs) t = (ltb→lt x 256 (and_left (ltb x 256) (all_bytes xs) t), good_bytes xs (and_right (ltb x 256) (all_bytes xs) t))

pub sector_good : (n : ℕ) (x : List ℕ) → length x ≡ n → T (all_bytes x) → Good n x
sector_good n x e t = subst (λ m. Good m x) e (good_bytes x t)

pub good_at : (n : ℕ) (xs : List (List ℕ)) → T (lengths n xs) → (p : ℕ) → p < length xs → Good n (piece_at xs p)
good_at n [] t p h = absurd (omega arith)
good_at n (x ∷ xs) t zero h = lengths_first n x xs t
good_at n (x ∷ xs) t (suc p) h = good_at n xs (lengths_rest n x xs t) p (omega arith)
