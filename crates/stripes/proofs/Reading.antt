-- What is read of four trusted drives is the row.
-- Assumes nothing.
use mathlib.Core.Path.{◌≡◌, refl, sym, ◌∙◌, ap, subst⁻¹}
use mathlib.Core.Logic.{◌⊎◌, inl, inr}
use mathlib.Core.Bool.{Bool, true, false, cond, ◌&&◌, true≢false}
use mathlib.Core.Option.{none, some}
use mathlib.Core.List.{List, []}
use Prim.Native.Nat.{ℕ, zero, suc, ◌+◌, ◌<◌, ◌≤◌}
use native.Mathlib.Omega.{arith}
use Rattle.drives.specs.Drives.{Slot, gone, there, Drives, shown, put, Io}
use Rattle.drives.specs.Machines.{is_gone}
use Rattle.crash.specs.Refinement.{Does, Few}
use Rattle.crash.proofs.Updates.{put_elim}
use Rattle.crash.proofs.Sectors.{Sight, sees, sight, text, shown_sight, holds_sight}
use Rattle.crash.proofs.Weak.{Weak}
use Rattle.crash.proofs.Counts.{count_same, four_first}
use Rattle.crash.proofs.Does.{Each, does_read_if}
use Rattle.root.specs.Root.{Record, Codec, Lawful, record_in, is_there, trusted}
use Rattle.root.proofs.Root.{missing_bare}
use Rattle.rows.specs.Rows.{Cell, fresh, kept, Reads}
use Rattle.rows.specs.Rows as rows
use Rattle.stripes.specs.Coding.{Coding, LawfulCoding, Shards}
use Rattle.stripes.specs.Stripes.{taken, picked, gather_row}
use Rattle.stripes.proofs.Standing.{sec, holds_is, shown_is, zero_is, Has, Shows, Zeros, IsRecord, is_record, NoRecord, no_record, Stand, no_drive, trusts, lacks_it}
use Rattle.stripes.proofs.Invariant.{R, Rows}

-- the sectors of a row, of drives that pass a test
module _ {A : Type 0} {I : Drives → Type 0} {Q : A → Drives → Type 0} (t : ℕ → Bool) (s : ℕ) {k : (ℕ → ℕ → List ℕ) → Io A} {d : Drives}
    (h : (g : ℕ → ℕ → List ℕ) → ((j i : ℕ) → j < 8 → i < 6 → t i ≡ true → g j i ≡ shown (d i) (s + j)) → Does I Q (k g) d) where
  sectors_below : (n : ℕ) (g : ℕ → ℕ → List ℕ) → ((j i : ℕ) → n ≤ j → j < 8 → i < 6 → t i ≡ true → g j i ≡ shown (d i) (s + j)) → Does I Q (gather_row t s n g k) d
  unfolding gather_row
  sectors_below zero g r = h g (λ j i a. r j i (omega arith) a)
  sectors_below (suc n) g r = does_read_if t (s + n) (λ f e. sectors_below n (put n f g) (more f e))
    where
      more : (f : ℕ → List ℕ) → ((i : ℕ) → i < 6 → t i ≡ true → f i ≡ shown (d i) (s + n)) → (j i : ℕ) → n ≤ j → j < 8 → i < 6 → t i ≡ true → put n f g j i ≡ shown (d i) (s + j)
      more f e j i a b c p = put_elim (λ (x : ℕ → List ℕ). x i ≡ shown (d i) (s + j)) n j f g (λ q. subst⁻¹ (λ m. f i ≡ shown (d i) (s + m)) q (e i c p)) (λ q. r j i (omega arith) b c p)

  pub does_read_row : Does I Q (gather_row t s 8 (λ j i. []) k) d
  does_read_row = sectors_below 8 (λ j i. []) (λ j i a b. absurd (omega arith))

module _ (K : Codec) (law : Lawful K) (Z : Coding) (cod : LawfulCoding Z) (size : ℕ) where
  -- what a row has, if that is known
  pub data Content : Cell Z.Row → Z.Row → Type 0 where
    of_never : Content rows.never Z.zero_row
    of_fresh : {b : Z.Row} → Content (fresh b) b
    of_kept : {b : Z.Row} → Content (kept b) b

  pub reads_content : (c : Cell Z.Row) (a : Z.Row) → ((b : Z.Row) → Content c b → a ≡ b) → Reads Z.zero_row c a
  reads_content rows.never a h = subst⁻¹ (Reads Z.zero_row rows.never) (h _ of_never) Reads.zeros
  reads_content rows.unknown a h = Reads.anything a
  reads_content (fresh b) a h = subst⁻¹ (Reads Z.zero_row (fresh b)) (h b of_fresh) (Reads.written b)
  reads_content (kept b) a h = subst⁻¹ (Reads Z.zero_row (kept b)) (h b of_kept) (Reads.committed b)

  -- A drive, by the label f that was read of it: one that is trusted has all rows, one that is not is weak.
  pub record Source (c : Rows K Z size) (ws : List ℕ) (f : ℕ → List ℕ) (i : ℕ) (x : Slot) : Type 0 where
    pub is_there_lem : trusted K (f i) ≡ true → is_gone x ≡ false
    pub has_kept : trusted K (f i) ≡ true → Has K Z (R K Z size) c i x
    pub shows_fresh : trusted K (f i) ≡ true → Shows K Z (R K Z size) c i x
    pub is_weak : trusted K (f i) ≡ false → Weak ws i
    pub has_zeros : Zeros K Z (R K Z size) c x

  -- WHAT A LABEL SHOWS

  pub record_shown : {q : Record K.V} (x : Slot) → IsRecord K Z (R K Z size) q (sight 0 x) → record_in K (shown x 0) ≡ some q
  record_shown {q} x h = ap (record_in K) (shown_sight 0 x) ∙ go (sight 0 x) h
    where
      go : (y : Sight) → IsRecord K Z (R K Z size) q y → record_in K (text y) ≡ some q
      go y (is_record e) = e

  pub record_there : {q : Record K.V} (x : Slot) → IsRecord K Z (R K Z size) q (sight 0 x) → is_gone x ≡ false
  unfolding is_gone
  record_there gone h = elim h [ ]
  record_there (there d) h = refl

  pub bare_shown : (x : Slot) → NoRecord K Z (R K Z size) (sight 0 x) → record_in K (shown x 0) ≡ none
  bare_shown x h = ap (record_in K) (shown_sight 0 x) ∙ go (sight 0 x) h
    where
      go : (y : Sight) → NoRecord K Z (R K Z size) y → record_in K (text y) ≡ none
      go y (no_record e) = e

  pub bare_there : (x : Slot) → NoRecord K Z (R K Z size) (sight 0 x) → is_gone x ≡ false
  unfolding is_gone
  bare_there gone h = elim h [ ]
  bare_there (there d) h = refl

  pub gone_shown : record_in K (shown gone 0) ≡ none
  unfolding shown
  gone_shown = missing_bare K law

  untrusted : (f : ℕ → List ℕ) (i : ℕ) (x : Slot) → f i ≡ shown x 0 → record_in K (shown x 0) ≡ none → trusted K (f i) ≡ true → ⊥
  untrusted f i x e u t = true≢false (sym t ∙ ap (trusted K) e ∙ ap is_there u)

  pub stand_source : {c : Rows K Z size} {ws : List ℕ} {q : Record K.V} {p n i : ℕ} {x : Slot} (f : ℕ → List ℕ) → f i ≡ shown x 0 → Stand K Z (R K Z size) c (Weak ws i) q p n i x → Zeros K Z (R K Z size) c x → Source c ws f i x
  stand_source {c} {ws} {i = i} f e (no_drive w) z =
      let u = untrusted f i gone e gone_shown in record { is_there_lem = λ t. absurd (u t); has_kept = λ t. absurd (u t); shows_fresh = λ t. absurd (u t); is_weak = λ t. w; has_zeros = z }
  stand_source {i = i} {x = x} f e (trusts h a b) z =
      let q = holds_sight h in
      record { is_there_lem = λ t. record_there x q; has_kept = λ t. a; shows_fresh = λ t. b; is_weak = λ t. absurd (true≢false (sym (ap (trusted K) e ∙ ap is_there (record_shown x q)) ∙ t)); has_zeros = z }
  stand_source {i = i} {x = x} f e (lacks_it w h a b) z =
      let u = untrusted f i x e (bare_shown x (holds_sight h)) in record { is_there_lem = λ t. absurd (u t); has_kept = λ t. absurd (u t); shows_fresh = λ t. absurd (u t); is_weak = λ t. w; has_zeros = z }

  -- THE SHARDS OF A ROW

  module _ {c : Rows K Z size} {ws : List ℕ} {f : ℕ → List ℕ} {r k : ℕ} (l : r < R K Z size) (a : k < 8) where
    source_shard : {b : Z.Row} {i : ℕ} {x : Slot} → i < 6 → Content (c r) b → trusted K (f i) ≡ true → Source c ws f i x → sight (sec r k) x ≡ sees (Z.shard b k i)
    source_shard {b} {i} {x} h e t s = go (c r) b refl e
      where
        go : (y : Cell Z.Row) (b : Z.Row) → c r ≡ y → Content y b → sight (sec r k) x ≡ sees (Z.shard b k i)
        go y b p of_never = zero_is (sec r k) x (s.is_there_lem t) (holds_sight (s.has_zeros r k l a p)) ∙ ap sees (sym (cod.zero_shard k i a h))
        go y b p of_fresh = s.shows_fresh t r k b l a p
        go y b p of_kept = holds_is (s.has_kept t r k b l a p)

    pub row_shards : {b : Z.Row} {e : Drives} → Few ws → Each (Source c ws f) e → Content (c r) b → (h : ℕ → List ℕ) → ((i : ℕ) → i < 6 → taken K f i ≡ true → h i ≡ shown (e i) (sec r k)) → Shards Z b k (picked (taken K f) h)
    row_shards {b} {e} few src con h read = record { each = each; four = count_same _ (taken K f) 6 (λ i o. there_as (taken K f i) (h i)) ∙ four_first ws few (λ i. trusted K (f i)) (λ i o t. (src i o).is_weak t) }
      where
        there_as : (v : Bool) (x : List ℕ) → is_there (cond v (some x) none) ≡ v
        there_as true x = refl
        there_as false x = refl

        taken_trusted : (v w : Bool) → (v && w) ≡ true → v ≡ true
        taken_trusted true w p = refl
        taken_trusted false w p = p

        each : (i : ℕ) → i < 6 → (picked (taken K f) h i ≡ none) ⊎ (picked (taken K f) h i ≡ some (Z.shard b k i))
        each i o = go (taken K f i) refl
          where
            go : (v : Bool) → taken K f i ≡ v → (cond v (some (h i)) none ≡ none) ⊎ (cond v (some (h i)) none ≡ some (Z.shard b k i))
            go true p = inr (ap some (read i o p ∙ shown_is (sec r k) (e i) (source_shard o con (taken_trusted (trusted K (f i)) _ p) (src i o))))
            go false p = inl refl
