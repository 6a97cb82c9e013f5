-- FOUR OF SIX, as it is promised: a way to make six pieces of four such that any four of the six give the four back.
-- Assumes nothing.
use Rattle.std.specs.Prelude.{◌≡◌, Bool, true, ◌&&◌, List, [], ◌∷◌, ℕ, suc, ◌≤◌, eqb, ltb, T, length}
use Rattle.meaning.specs.Lists.{every}

pub record Code : Type 0 where
  pub pieces : List (List ℕ) → List (List ℕ)
  pub back : List (record { place : ℕ; bytes : List ℕ }) → List (List ℕ)

-- each piece is n bytes
unfoldable pub lengths : ℕ → List (List ℕ) → Bool
lengths n [] = true
lengths n (x ∷ xs) = eqb n (length x) && every (λ (b : ℕ). ltb b 256) x && lengths n xs

-- what stands at a place
pub data At : List (List ℕ) → ℕ → List ℕ → Type 0 where
  here : {x : List ℕ} {xs : List (List ℕ)} → At (x ∷ xs) 0 x
  there : {x y : List ℕ} {xs : List (List ℕ)} {n : ℕ} → At xs n x → At (y ∷ xs) (suc n) x

-- pieces of all, with their places, which rise
pub data Among (all : List (List ℕ)) : ℕ → List (record { place : ℕ; bytes : List ℕ }) → Type 0 where
  no_more : {n : ℕ} → Among all n []
  one_more : {n p : ℕ} {x : List ℕ} {xs : List (record { place : ℕ; bytes : List ℕ })} → n ≤ p → At all p x → Among all (suc p) xs → Among all n (record { place = p; bytes = x } ∷ xs)

abbrev pub AnyFour : Code → Type 0
AnyFour c =
    (n : ℕ) (data' : List (List ℕ)) → length data' ≡ 4 → T (lengths n data') → (length (c.pieces data') ≡ 6) × T (lengths n (c.pieces data')) ×
    ((some' : List (record { place : ℕ; bytes : List ℕ })) → length some' ≡ 4 → Among (c.pieces data') 0 some' → c.back some' ≡ data')
