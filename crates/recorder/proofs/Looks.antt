-- What `find_map` finds among labels, where each call says what was committed by one.
-- Assumes nothing.
use Rattle.std.proofs.Common.{◌≡◌, ℕ, zero, suc, ◌+◌, ◌<◌, true, List, [], ◌∷◌, length, get_or, sym, refl, ap, ◌∙◌, Option, None, Some, arith}
use denote.Param.Members.{Mut}
use Rattle.std.specs.Fn.{Called}
use Rattle.std.specs.Option.{MatchOption, IsSomeAnd, IfSome, option_or, option_map}
use Rattle.std.specs.Iterator.Runs.{Run, ItemsMapTo, AllItemsGive, IsFirstToGive, CallKeepsClosure}
use Rattle.register.specs.declared.Payload.{Payload}
use Rattle.labels.specs.declared.Label.{Label}
use Rattle.labels.specs.declared.Label.TheVariants.{Missing}
use Rattle.labels.specs.Times.{committed_on}
use Rattle.recorder.specs.Recording.{lowest_in}

none_in : (ls : List Label) → ((k : ℕ) → k < length ls → committed_on (get_or ls k Missing) ≡ None) → lowest_in ls ≡ None
none_in [] h = refl
none_in (l ∷ ls) h = ap (λ o. option_or o (lowest_in ls)) (h 0 (omega arith)) ∙ none_in ls (λ k i. h (suc k) (omega arith))

first_in :
    (ls : List Label) (i : ℕ) (y : Payload) →
    i < length ls → committed_on (get_or ls i Missing) ≡ Some y → ((k : ℕ) → k < i → committed_on (get_or ls k Missing) ≡ None) → lowest_in ls ≡ Some y
first_in [] i y h e n = absurd (omega arith)
first_in (l ∷ ls) zero y h e n = ap (λ o. option_or o (lowest_in ls)) e
first_in (l ∷ ls) (suc i) y h e n = ap (λ o. option_or o (lowest_in ls)) (n 0 (omega arith)) ∙ first_in ls i y (omega arith) e (λ k j. n (suc k) (omega arith))

module _ {A F : Type 0} (v : A → Label) (g : Mut F (A × Unit {0}) (Option Payload)) (f : F)
    (says : (x : A) (y : Option Payload) → Called g f (x, tt) y f → y ≡ committed_on (v x)) where
  on_some : (o : Option A) (l : Label) (y : Option Payload) → option_map v o ≡ Some l → IsSomeAnd o (λ x. Called g f (x, tt) y f) → committed_on l ≡ y
  on_some None l y e h = absurd h
  on_some (Some x) l y e h = let w : v x ≡ l = cc in sym (says x y h ∙ ap committed_on w)

  if_some : (o : Option A) (l : Label) (y : Option Payload) → option_map v o ≡ Some l → IfSome o (λ x. Called g f (x, tt) y f) → committed_on l ≡ y
  if_some None l y e h = cc
  if_some (Some x) l y e h = on_some (Some x) l y e h

  pub finds :
      {S : Type 0} {steps : S → Option A → S → Type 0} (ls : List Label) (r : Option Payload) (p : Run steps) → ItemsMapTo p v ls → CallKeepsClosure g f →
      MatchOption r ((p.whole ≡ true) × AllItemsGive p g f None) (λ y. (i : ℕ) × (i < p.len) × (p.len ≡ i + 1) × IsFirstToGive p g f (Some y) None i) →
      r ≡ lowest_in ls
  finds ls None p m k (w, h) = let n = m.1 w in sym (none_in ls (λ i l. if_some (p.at i) (get_or ls i Missing) None (m.2 i Missing (omega arith)) (h k i)))
  finds ls (Some y) p m k (i, l, n, h) =
      let a = m.0 in
      sym (first_in ls i y (omega arith) (on_some (p.at i) (get_or ls i Missing) (Some y) (m.2 i Missing l) (h k).0)
      (λ j b. on_some (p.at j) (get_or ls j Missing) None (m.2 j Missing (omega arith)) ((h k).1 j b)))
