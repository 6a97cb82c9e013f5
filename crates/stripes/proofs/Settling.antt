-- Settling a record: its label goes to some drives, and all are synced.
-- Assumes nothing.
use mathlib.Core.Path.{◌≡◌, refl, subst⁻¹}
use mathlib.Core.Bool.{Bool, true, false, cond}
use Prim.Native.Nat.{ℕ, ◌<◌}
use Rattle.drives.specs.Drives.{Slot, gone, there, Drives, written_to, synced_one}
use Rattle.drives.specs.Machines.{is_gone}
use Rattle.crash.specs.Refinement.{Does}
use Rattle.crash.proofs.Sectors.{sight, away, holds_more, holds_write, sight_write, sight_sync, Calm, calm_holds, calm_sync}
use Rattle.crash.proofs.Does.{does_answer, Each, written_if, does_each, acts_write, acts_sync}
use Rattle.root.specs.Root.{Record, has, Codec, Lawful}
use Rattle.root.proofs.Root.{May, lacks, shows, may_more, written}
use Rattle.stripes.specs.Coding.{Coding}
use Rattle.stripes.specs.Stripes.{settle}
use Rattle.stripes.proofs.Standing.{label_moves, sync_moves, Cells, Has, Zeros, Fit, has_moves, zeros_moves}

module _ (K : Codec) (law : Lawful K) (Z : Coding) (R : ℕ) where
  -- The record q is settled on the drives that pass the test t. All along, labels may be as C says, and fit the rows c. B, B': drives may be without a record all along, and at the end.
  -- X: what else is known of a drive, and stays.
  pub record Settles (c : Cells K Z R) (W B B' : ℕ → Type 0) (C : Record K.V → Type 0) (t : ℕ → Bool) (q : Record K.V) (X : ℕ → Slot → Type 0) : Type 0 where
    pub own : C q
    pub fewer : (i : ℕ) → B' i → B i
    pub label_keeps : (i : ℕ) (x : Slot) → t i ≡ true → X i x → X i (written_to 0 (K.encode (has q)) x)
    pub sync_keeps : (i : ℕ) (x : Slot) → X i x → X i (synced_one x)

  module _ {c : Cells K Z R} {W B B' : ℕ → Type 0} {C : Record K.V → Type 0} {t : ℕ → Bool} {q : Record K.V} {X : ℕ → Slot → Type 0} (z : Settles c W B B' C t q X) where
    -- the label at the end
    abbrev Final : ℕ → Slot → Type 0
    Final i x = May K (W i) (B' i) (λ o. (o ≡ q) × Has K Z R c i x) (sight 0 x)

    abbrev Along : ℕ → Slot → Type 0
    Along i x = Fit K Z R c (W i) (B i) C i x

    -- a drive before its write, after it, and after its sync
    abbrev pub Before : ℕ → Slot → Type 0
    Before i x = Along i x × (t i ≡ true → is_gone x ≡ false → Has K Z R c i x) × (t i ≡ false → Final i x) × X i x

    abbrev Between : ℕ → Slot → Type 0
    Between i x = Along i x × Final i x × X i x

    abbrev pub After : ℕ → Slot → Type 0
    After i x = Calm 0 x × Final i x × Zeros K Z R c x × X i x

    after_along : (i : ℕ) (x : Slot) → After i x → Along i x
    after_along i x (k, f, h, y) = (calm_holds k (may_more (λ w. w) (z.fewer i) (λ o (e, g). (subst⁻¹ C e z.own, g)) _ f), h)

    write_one : (i : ℕ) (x : Slot) → Before i x → t i ≡ true → Between i (written_to 0 (K.encode (has q)) x)
    unfolding written_to is_gone
    write_one i gone ((away (lacks w), h), g, s, y) e = ((away (lacks w), h), lacks w, z.label_keeps i gone e y)
    write_one i (there d) ((l, h), g, s, y) e =
        let b = K.encode (has q) in
        let m = label_moves b (there d) in
        let k = has_moves K Z R m (g e refl) in (
          (holds_write b (shows q (written K law q) (z.own, k)) (holds_more (may_more (λ w. w) (λ w. w) (λ o (p, a). (p, has_moves K Z R m a))) l), zeros_moves K Z R m h),
          subst⁻¹ (May K (W i) (B' i) (λ o. (o ≡ q) × Has K Z R c i (written_to 0 b (there d)))) (sight_write 0 b d) (shows q (written K law q) (refl, k)),
          z.label_keeps i (there d) e y,
        )

    writes : (i : ℕ) (x : Slot) → i < 6 → Before i x → Between i (written_if t 0 (λ j. K.encode (has q)) i x)
    writes i x l h = go (t i) refl
      where
        go : (v : Bool) → t i ≡ v → Between i (cond v (written_to 0 (K.encode (has q)) x) x)
        go true e = write_one i x h e
        go false e = (h.0, h.2 e, h.3)

    syncs : (i : ℕ) (x : Slot) → i < 6 → Between i x → After i (synced_one x)
    syncs i x l ((p, h), f, y) =
        let m = sync_moves x in (
          calm_sync 0 x,
          subst⁻¹ (May K (W i) (B' i) (λ o. (o ≡ q) × Has K Z R c i (synced_one x))) (sight_sync 0 x) (may_more (λ w. w) (λ w. w) (λ o (e, a). (e, has_moves K Z R m a)) _ f),
          zeros_moves K Z R m h,
          z.sync_keeps i x y,
        )

    pub does_settle : {A : Type 0} {I : Drives → Type 0} {Q : A → Drives → Type 0} (a : A) → ((e : Drives) → Each Along e → I e) → ((e : Drives) → Each After e → Q a e) → {d : Drives} → Each Before d → Does I Q (settle K t q a) d
    unfolding settle
    does_settle a stop end h =
        does_each {F = Before} {G = Between} {J = Along} (acts_write t 0 (λ j. K.encode (has q))) stop (λ i x b. b.0) (λ i x b. b.0) writes
        (λ e. does_each {F = Between} {G = After} {J = Along} acts_sync stop (λ i x b. b.0) after_along syncs (λ e g. does_answer (stop e (λ i l. after_along i (e i) (g i l))) (end e g)))
        h
