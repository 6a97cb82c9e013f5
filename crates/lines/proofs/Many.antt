-- How many of a kind are read, one by one.
use Rattle.std.proofs.Common.{◌≡◌, ℕ, suc, ◌+◌, ◌-◌, ◌<◌, ◌≤◌, false, eqb, List, ◌∷◌, length, Some, None, Option, sym, refl, ap, ◌∙◌, arith}
use Rattle.lines.specs.Fields.{Took, ◌then◌}
use Rattle.lines.specs.Calls.{many_in, are_many, whole}

-- at most i of n were read: what is left decides
pub left_more : {A : Type 0} (read : List ℕ → Option (Took A)) (n i : ℕ) (l : List ℕ) (x : A) (rest : List ℕ) → i < n → Some (record { value = x; rest = rest }) ≡ read l → are_many read (n - (i + 1)) rest ≡ are_many read (n - i) l
unfolding many_in
left_more {A} read n i l x rest h e =
    let m = n - (i + 1) in
    let one : n - i ≡ suc m = omega arith in
    sym (ap (λ (k : ℕ). are_many read k l) one ∙ ap (λ (o : Option (Took A)). whole (o then (λ y l. many_in read m l then (λ xs l. Some (record { value = y ∷ xs; rest = l }))))) (sym e) ∙ go (many_in read m rest))
  where
    go : (o : Option (Took (List A))) → whole (o then (λ xs l. Some (record { value = x ∷ xs; rest = l }))) ≡ whole o
    go None = refl
    go (Some t) = refl

pub left_none : {A : Type 0} (read : List ℕ → Option (Took A)) (n i : ℕ) (l : List ℕ) → i < n → None ≡ read l → false ≡ are_many read (n - i) l
unfolding many_in
left_none {A} read n i l h e =
    let m = n - (i + 1) in
    let one : n - i ≡ suc m = omega arith in
    sym (ap (λ (k : ℕ). are_many read k l) one ∙ ap (λ (o : Option (Took A)). whole (o then (λ y l. many_in read m l then (λ xs l. Some (record { value = y ∷ xs; rest = l }))))) (sym e))

pub left_ended : {A : Type 0} (read : List ℕ → Option (Took A)) (n i : ℕ) (l : List ℕ) → n ≤ i → eqb (length l) 0 ≡ are_many read (n - i) l
unfolding many_in
left_ended read n i l h =
    let none : n - i ≡ 0 = omega arith in
    sym (ap (λ (k : ℕ). are_many read k l) none)
