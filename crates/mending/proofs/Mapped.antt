-- What `map` makes of an array, where each call of its closure gives what a function says.
-- Assumes nothing.
use Rattle.std.proofs.Common.{◌≡◌, ℕ, List, length, map, sym, ◌∙◌, arith}
use Rattle.std.proofs.lemmas.List.{ext_get_or, length-map}
use Rattle.std.proofs.Math.ListN.{get_or-map}
use Rattle.std.specs.Array.{IsMapOf}
use denote.Param.Members.{Mut, Called}

pub map_is :
    {F A B : Type 0} {g : Mut F (A × Unit {0}) B} {f : F} {xs : List A} {ys : List B} {n : ℕ} (h : A → B) (d : A) →
    ((p q : F) (x : A) (y : B) → Called g p (x, tt) y q → y ≡ h x) → length xs ≡ n → IsMapOf g f xs ys n → ys ≡ map h xs
map_is {xs = xs} {ys = ys} h d gives e m =
    ext_get_or (h d) ys (map h xs) (m.long ∙ sym e ∙ sym (length-map xs h))
    (λ i l. let (p, q, k) = m.at i d (h d) (omega (arith, l, m.long)) in gives p q _ _ k ∙ sym (get_or-map h xs i d))
