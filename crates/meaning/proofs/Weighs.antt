-- What versions weigh: never more by what goes, by a hold or by a rule, and joined no more than in parts.
-- Assumes nothing.
use Rattle.std.proofs.Common.{◌≡◌, ℕ, zero, suc, ◌+◌, ◌-◌, ◌*◌, ◌/◌, ◌≤◌, Bool, true, false, cond, not, ◌&&◌, eqb, List, [], ◌∷◌, length, sym, refl, ap, ◌∙◌, arith, length-append}
use mathlib.Core.List.{Memᴰ}
use Rattle.std.proofs.lemmas.Bool.{eqb-true, eqb-false, and_parts, not-true, cond_both, true≢false}
use Rattle.std.proofs.lemmas.Bool.Decides.{nat_tests}
use Rattle.meaning.specs.Lists.{keep, change, none}
use Rattle.meaning.specs.Rooms.{Body, Bytes, Removed, Version, Part, Rule}
use Rattle.meaning.specs.Does.{is_held, is_num, is_removed, bytes_of, num_of, joined, due, old_kept, tidy, covered, aged}
use Rattle.meaning.specs.Weights.{less_by, blocks, body_weight, versions_weight, parts_weight}
use Rattle.meaning.proofs.Steps.{hold_to}
use Rattle.meaning.proofs.Heaps.{mark}

-- BLOCKS

less_by_is : (k m : ℕ) → less_by k m ≡ m - k
unfolding less_by
less_by_is zero m = omega arith
less_by_is (suc k) zero = omega arith
less_by_is (suc k) (suc m) = omega (arith, less_by_is k m)

-- the blocks that so many bytes fill or begin
blocks_is : (fuel n : ℕ) → n ≤ fuel → blocks fuel n ≡ (n + 16383) / 16384
unfolding blocks
blocks_is zero n h = omega arith
blocks_is (suc fuel) n h =
    let below : blocks fuel (less_by 16384 n) ≡ ((n - 16384) + 16383) / 16384 = rw (less_by_is 16384 n) (blocks_is fuel (n - 16384) (omega arith)) in
    cond_both (eqb n 0) 0 (1 + blocks fuel (less_by 16384 n)) (λ b. b ≡ (n + 16383) / 16384) (λ e. omega (arith, eqb-true n 0 e)) (λ e. omega (arith, eqb-false n 0 e, below))

body_weight_is : (bs : List ℕ) → body_weight bs ≡ 1024 + 16384 * ((length bs + 16383) / 16384)
body_weight_is bs = ap (λ (b : ℕ). 1024 + 16384 * b) (blocks_is (length bs) (length bs) (omega arith))

-- joined, parts weigh no more than they did, and 1,024 less for each but one
joined_blocks : (ps : List Part) → 16384 * ((length (joined ps) + 16383) / 16384) + 1024 * length ps ≤ parts_weight ps
unfolding joined parts_weight
joined_blocks [] = omega arith
joined_blocks (p ∷ ps) = omega (arith, joined_blocks ps, body_weight_is p.bytes, length-append p.bytes (joined ps))

pub joined_light : (ps : List Part) → none ps ≡ false → body_weight (joined ps) ≤ parts_weight ps
unfolding none
joined_light [] e = absurd (true≢false e)
joined_light (p ∷ ps) e = omega (arith, joined_blocks (p ∷ ps), body_weight_is (joined (p ∷ ps)))

-- VERSIONS

-- a version with bytes has a number
abbrev pub Plain : Version → Type 0
Plain v = (bs : List ℕ) → v.body ≡ Bytes bs → 1 ≤ v.num

abbrev weighs : Version → ℕ
weighs v = body_weight (bytes_of v.body)

-- a version that has no number weighs nothing on one that has
weight_step : (v : Version) (vs : List Version) → versions_weight (v ∷ vs) ≡ cond (eqb v.num 0 && not (eqb (num_of vs) 0)) 0 (weighs v) + versions_weight vs
unfolding versions_weight num_of
weight_step v [] = last (eqb v.num 0)
  where
    last : (b : Bool) → weighs v ≡ cond (b && false) 0 (weighs v) + 0
    last true = omega arith
    last false = omega arith
weight_step v (w ∷ vs) = refl

step_least : (v : Version) (vs : List Version) → versions_weight vs ≤ versions_weight (v ∷ vs)
step_least v vs = omega (arith, weight_step v vs)

pub step_most : (v : Version) (vs : List Version) → versions_weight (v ∷ vs) ≤ weighs v + versions_weight vs
step_most v vs = rw (weight_step v vs) (cond_both (eqb v.num 0 && not (eqb (num_of vs) 0)) 0 (weighs v) (λ w. w + versions_weight vs ≤ weighs v + versions_weight vs) (λ e. omega arith) (λ e. omega arith))

step_numbered : (v : Version) (vs : List Version) → 1 ≤ v.num → versions_weight (v ∷ vs) ≡ weighs v + versions_weight vs
step_numbered v vs h =
    weight_step v vs
    ∙ cond_both (eqb v.num 0 && not (eqb (num_of vs) 0)) 0 (weighs v) (λ w. w + versions_weight vs ≡ weighs v + versions_weight vs)
    (λ e. absurd (omega (arith, eqb-true v.num 0 (and_parts (eqb v.num 0) (not (eqb (num_of vs) 0)) e).0)))
    (λ e. refl)

-- a mark weighs 1,024 at most, and nothing on a version with a number
removed_weighs : (v : Version) → v.body ≡ Removed → weighs v ≡ 1024
unfolding bytes_of blocks
removed_weighs v e = rw e refl

mark_weighs : (v : Version) → Plain v → v.num ≡ 0 → weighs v ≡ 1024
mark_weighs v p e = go v.body refl
  where
    go : (b : Body) → v.body ≡ b → weighs v ≡ 1024
    go (Bytes bs) f = absurd (omega (arith, p bs f))
    go Removed f = removed_weighs v f

mark_on_numbered : (v w : Version) (vs : List Version) → v.num ≡ 0 → 1 ≤ w.num → versions_weight (v ∷ w ∷ vs) ≡ versions_weight (w ∷ vs)
unfolding versions_weight
mark_on_numbered v w vs e h = grind (arith, nat_tests)

-- a list with some of its versions taken out
pub data Thinned : List Version → List Version → Type 0 where
  bottom : Thinned [] []
  stays : {v : Version} {vs ws : List Version} → Thinned ws vs → Thinned (v ∷ ws) (v ∷ vs)
  goes : {v : Version} {vs ws : List Version} → Thinned ws vs → Thinned ws (v ∷ vs)

same_top : (v w : Version) (ws vs : List Version) → versions_weight (w ∷ ws) ≤ versions_weight (w ∷ vs) → versions_weight (v ∷ w ∷ ws) ≤ versions_weight (v ∷ w ∷ vs)
unfolding num_of
same_top v w ws vs h = omega (arith, weight_step v (w ∷ ws), weight_step v (w ∷ vs))

-- a mark may come to weigh when what was under it goes, but no more than that weighed
other_top : (v w : Version) (ws vs : List Version) → Plain v → versions_weight ws ≤ versions_weight vs → versions_weight (v ∷ ws) ≤ versions_weight (v ∷ w ∷ vs)
unfolding num_of
other_top v w ws vs p h =
    rw (weight_step v (w ∷ vs)) (cond_both (eqb v.num 0 && not (eqb w.num 0)) 0 (weighs v) (λ x. versions_weight (v ∷ ws) ≤ x + versions_weight (w ∷ vs))
    (λ e.
    let (a, b) = and_parts (eqb v.num 0) (not (eqb w.num 0)) e in
    omega (arith, step_most v ws, mark_weighs v p (eqb-true v.num 0 a), step_numbered w vs (omega (arith, eqb-false w.num 0 (not-true (eqb w.num 0) b)))))
    (λ e. omega (arith, step_most v ws, step_least w vs)))

pub lighter : {ws vs : List Version} → Thinned ws vs → ((v : Version) → Memᴰ v vs → Plain v) → versions_weight ws ≤ versions_weight vs
lighter bottom p = omega arith
lighter (goes {v = v} {vs = vs} h) p = omega (arith, lighter h (λ u m. p u (Memᴰ.tail m)), step_least v vs)
lighter (stays bottom) p = omega arith
lighter (stays {v = v} (stays {v = w} {vs = vs} {ws = ws} h)) p = same_top v w ws vs (lighter (stays h) (λ u m. p u (Memᴰ.tail m)))
lighter (stays {v = v} (goes {v = w} {vs = vs} {ws = ws} h)) p =
    other_top v w ws vs (p v (Memᴰ.head refl)) (lighter h (λ u m. p u (Memᴰ.tail (Memᴰ.tail m))))

pub keep_thinned : (f : Version → Bool) (vs : List Version) → Thinned (keep f vs) vs
unfolding keep
keep_thinned f [] = bottom
keep_thinned f (v ∷ vs) = elim (f v) as (λ b. Thinned (cond b (v ∷ keep f vs) (keep f vs)) (v ∷ vs)) [ true ↦ stays (keep_thinned f vs) | false ↦ goes (keep_thinned f vs) ]

old_kept_thinned : (now l a : ℕ) (vs : List Version) → Thinned (old_kept now l a vs) vs
unfolding old_kept
old_kept_thinned now l a [] = bottom
old_kept_thinned now l a (v ∷ vs) =
    elim (due now l a && not (is_held now v)) as (λ b. Thinned (cond b (old_kept now l v.at vs) (v ∷ old_kept now l v.at vs)) (v ∷ vs)) [
      | true ↦ goes (old_kept_thinned now l v.at vs)
      | false ↦ stays (old_kept_thinned now l v.at vs)
    ]

tidy_lighter : (vs : List Version) → versions_weight (tidy vs) ≤ versions_weight vs
unfolding tidy versions_weight
tidy_lighter [] = omega arith
tidy_lighter (v ∷ []) = elim (is_removed v.body) as (λ b. versions_weight (cond b [] (v ∷ [])) ≤ weighs v) [ true ↦ omega arith | false ↦ omega arith ]
tidy_lighter (v ∷ w ∷ vs) = omega arith

-- longer held, a version weighs the same
held_num : (num until : ℕ) (vs : List Version) → num_of (change (is_num num) (hold_to until) vs) ≡ num_of vs
unfolding change num_of
held_num num until [] = refl
held_num num until (v ∷ vs) = elim (is_num num v) as (λ b. num_of (cond b (hold_to until v ∷ vs) (v ∷ change (is_num num) (hold_to until) vs)) ≡ v.num) [ true ↦ refl | false ↦ refl ]

pub held_weighs : (num until : ℕ) (vs : List Version) → versions_weight (change (is_num num) (hold_to until) vs) ≡ versions_weight vs
unfolding change
held_weighs num until [] = refl
held_weighs num until (v ∷ vs) =
    elim (is_num num v) as (λ b. versions_weight (cond b (hold_to until v ∷ vs) (v ∷ change (is_num num) (hold_to until) vs)) ≡ versions_weight (v ∷ vs)) [
      | true ↦ weight_step (hold_to until v) vs ∙ sym (weight_step v vs)
      | false ↦ weight_step v (change (is_num num) (hold_to until) vs) ∙ rw (held_num num until vs, held_weighs num until vs) (sym (weight_step v vs))
    ]

-- RULES take away, and their mark weighs nothing, or no more than what goes

covered_light : (now : ℕ) (vs : List Version) → versions_weight (covered now vs) ≤ 1024 + versions_weight vs
unfolding covered
covered_light now [] = omega arith
covered_light now (v ∷ vs) = omega (arith, step_most (mark now) (v ∷ vs), removed_weighs (mark now) refl)

bytes_numbered : (v : Version) → Plain v → is_removed v.body ≡ false → 1 ≤ v.num
unfolding is_removed
bytes_numbered v p e = go v.body refl
  where
    go : (b : Body) → v.body ≡ b → 1 ≤ v.num
    go (Bytes bs) f = p bs f
    go Removed f = absurd (true≢false (rw f at e))

pub aged_lighter : (now : ℕ) (keeps : Bool) (xs : List Rule) (vs : List Version) → ((v : Version) → Memᴰ v vs → Plain v) → versions_weight (aged now keeps xs vs) ≤ versions_weight vs
unfolding aged
aged_lighter now keeps [] vs p = omega arith
aged_lighter now keeps (x ∷ xs) [] p = omega arith
aged_lighter now keeps (x ∷ xs) (v ∷ vs) p =
    cond_both taken (cond keeps (mark now ∷ v ∷ older) (covered now older)) (v ∷ older) (λ ws. versions_weight (tidy ws) ≤ versions_weight (v ∷ vs))
    (λ e. let n : 1 ≤ v.num = bytes_numbered v (p v (Memᴰ.head refl)) (has_bytes e) in marked n keeps)
    (λ e. omega (arith, tidy_lighter (v ∷ older), below))
  where
    older : List Version
    older = old_kept now x.old_lasts v.at vs

    lasted : Bool
    lasted = due now x.lasts v.at

    taken : Bool
    taken = lasted && not (is_removed v.body) && not (is_held now v)

    has_bytes : taken ≡ true → is_removed v.body ≡ false
    has_bytes e = not-true (is_removed v.body) (and_parts lasted (not (is_removed v.body)) (and_parts (lasted && not (is_removed v.body)) (not (is_held now v)) e).0).1

    below : versions_weight (v ∷ older) ≤ versions_weight (v ∷ vs)
    below = lighter (stays (old_kept_thinned now x.old_lasts v.at vs)) p

    marked : 1 ≤ v.num → (k : Bool) → versions_weight (tidy (cond k (mark now ∷ v ∷ older) (covered now older))) ≤ versions_weight (v ∷ vs)
    marked n true = omega (arith, tidy_lighter (mark now ∷ v ∷ older), mark_on_numbered (mark now) v older refl n, below)
    marked n false =
        omega (arith, tidy_lighter (covered now older), covered_light now older, lighter (old_kept_thinned now x.old_lasts v.at vs) (λ u m. p u (Memᴰ.tail m)), step_numbered v vs n)
