-- What lent memory holds after a sector was put there.
-- Assumes nothing.
use Rattle.std.proofs.Common.{◌≡◌, ℕ, ◌+◌, ◌-◌, ◌≤◌, min, Bool, true, false, cond, eqb, List, ◌++◌, length, take, drop, sym, refl, ap, ◌∙◌, arith, length-drop, length-take-le, take-take, drop-drop, take_at, drop_at, eq-eqb, eqb-true}
use lib.ListN.{length-replicate}
use lib.Seq.{take-append-le, drop-append-le, drop-append-add}
use Rattle.std.proofs.lemmas.List.{drop-take}
use Rattle.std.proofs.lemmas.Grind.{common_steps}
use Rattle.steps.specs.Steps.{unused, Ample, sector_at, placed}
use Rattle.steps.specs.declared.Lent.{Lent}

pub unused_ample : Ample unused
unused_ample = length-replicate {A = ℕ} 4096 0

module _ (lent : Lent) (ample : Ample lent) (at : ℕ) (got : List ℕ) where
  abbrev a : ℕ
  a = min at 3584

  abbrev xs : List ℕ
  xs = lent.bytes

  abbrev front : List ℕ
  front = take a xs

  abbrev rest : List ℕ
  rest = got ++ drop (a + 512) xs

  abbrev after : Bool → Lent
  after v = cond v (record { bytes = front ++ rest }) lent

  front_long : length front ≡ a
  front_long = length-take-le a xs (omega (arith, ample))

  pub placed_ample : Ample (placed at got lent)
  placed_ample = grind (arith, common_steps)

  -- what was put there is read back
  pub sector_placed : length got ≡ 512 → sector_at at (placed at got lent) ≡ got
  sector_placed h =
      ap (λ v. sector_at at (after v)) (eq-eqb (length got) 512 h) ∙
      ap (take 512) (drop_at front rest a front_long) ∙
      take_at got (drop (a + 512) xs) 512 h

  -- what lies before it and after it stays
  pub sector_before : (b : ℕ) → b + 512 ≤ at → at ≤ 3584 → sector_at b (placed at got lent) ≡ sector_at b lent
  sector_before b h k = go (eqb (length got) 512)
    where
      go : (v : Bool) → sector_at b (after v) ≡ sector_at b lent
      go false = refl
      go true =
          let n = a - min b 3584 in
          let e : min b 3584 + n ≡ a = omega arith in
          ap (take 512) (drop-append-le (min b 3584) front rest (let l = front_long in omega arith)) ∙
          take-append-le 512 (drop (min b 3584) front) rest (let l = front_long in let m = length-drop (min b 3584) front in omega arith) ∙
          ap (λ i. take 512 (drop (min b 3584) (take i xs))) (sym e) ∙
          ap (take 512) (drop-take (min b 3584) n xs) ∙
          take-take 512 n (drop (min b 3584) xs) (omega arith)

  pub sector_after : (b : ℕ) → at + 512 ≤ b → b ≤ 3584 → sector_at b (placed at got lent) ≡ sector_at b lent
  sector_after b h k = go (eqb (length got) 512) refl
    where
      go : (v : Bool) → eqb (length got) 512 ≡ v → sector_at b (after v) ≡ sector_at b lent
      go false e = refl
      go true e =
          let n = min b 3584 - (a + 512) in
          let i : length front + (512 + n) ≡ min b 3584 = (let l = front_long in omega arith) in
          let j : length got + n ≡ 512 + n = (let l = eqb-true _ _ e in omega arith) in
          let m : (a + 512) + n ≡ min b 3584 = omega arith in
          ap (take 512)
          (ap (λ o. drop o (front ++ rest)) (sym i) ∙
          drop-append-add front rest (512 + n) ∙
          ap (λ o. drop o rest) (sym j) ∙
          drop-append-add got (drop (a + 512) xs) n ∙
          drop-drop n (a + 512) xs ∙
          ap (λ o. drop o xs) m)
