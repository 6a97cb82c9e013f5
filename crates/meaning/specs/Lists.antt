-- Lists: what to look for, keep and change in them; names, and their order.
-- Assumes nothing.
use Rattle.std.specs.Prelude.{ℕ, zero, suc, Bool, true, false, cond, not, ◌&&◌, ◌||◌, List, [], ◌∷◌, ◌==◌, nat_lt}

-- a name, a key, or the beginning of one: its bytes
abbrev pub Name : Type 0
Name = List ℕ

unfoldable pub some : {A : Type 0} → (A → Bool) → List A → Bool
some f [] = false
some f (x ∷ xs) = f x || some f xs

unfoldable pub every : {A : Type 0} → (A → Bool) → List A → Bool
every f [] = true
every f (x ∷ xs) = f x && every f xs

-- those that pass the test
unfoldable pub keep : {A : Type 0} → (A → Bool) → List A → List A
keep f [] = []
keep f (x ∷ xs) = cond (f x) (x ∷ keep f xs) (keep f xs)

-- the first that passes the test, or none
unfoldable pub find : {A : Type 0} → (A → Bool) → List A → List A
find f [] = []
find f (x ∷ xs) = cond (f x) (x ∷ []) (find f xs)

-- the list with its first that passes the test changed
unfoldable pub change : {A : Type 0} → (A → Bool) → (A → A) → List A → List A
change f g [] = []
change f g (x ∷ xs) = cond (f x) (g x ∷ xs) (x ∷ change f g xs)

unfoldable pub first_of : {A : Type 0} → ℕ → List A → List A
first_of zero xs = []
first_of (suc n) [] = []
first_of (suc n) (x ∷ xs) = x ∷ first_of n xs

unfoldable pub drop_of : {A : Type 0} → ℕ → List A → List A
drop_of zero xs = xs
drop_of (suc n) [] = []
drop_of (suc n) (x ∷ xs) = drop_of n xs

unfoldable pub none : {A : Type 0} → List A → Bool
none [] = true
none (x ∷ xs) = false

-- the order of names: byte by byte, a beginning before what it begins
unfoldable pub less : Name → Name → Bool
less xs [] = false
less [] (y ∷ ys) = true
less (x ∷ xs) (y ∷ ys) = nat_lt x y || (x == y && less xs ys)

abbrev pub same : Name → Name → Bool
same a b = not (less a b) && not (less b a)

-- does the second begin with the first
unfoldable pub begins : Name → Name → Bool
begins [] ys = true
begins (x ∷ xs) [] = false
begins (x ∷ xs) (y ∷ ys) = x == y && begins xs ys
