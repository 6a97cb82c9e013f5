-- Writing a row: while it is written it is unknown, and all else stays.
-- Assumes nothing.
use mathlib.Core.Path.{◌≡◌, refl, sym, ◌∙◌, ap, subst⁻¹}
use mathlib.Core.Logic.{⊎_elim}
use mathlib.Core.Bool.{true, false, true≢false}
use mathlib.Core.List.{List}
use Prim.Native.Nat.{ℕ, suc, ◌<◌, ◌≤◌}
use native.Mathlib.Omega.{arith}
use Rattle.drives.specs.Drives.{Slot, gone, there, Drives, written_to, put, Io}
use Rattle.drives.specs.Machines.{is_gone}
use Rattle.crash.specs.Loops.{on_each, write_if}
use Rattle.crash.specs.Refinement.{Does}
use Rattle.crash.proofs.Updates.{same?, put_at_lem, put_off}
use Rattle.crash.proofs.Sectors.{sees, sight, holds_write_off, sight_write, sight_write_off, shown_write_off}
use Rattle.crash.proofs.Does.{Each, does_loop, does_each, acts_write}
use Rattle.root.specs.Root.{Record, Codec}
use Rattle.rows.specs.Rows.{Cell, unknown, fresh, kept}
use Rattle.rows.specs.Rows as rows
use Rattle.stripes.specs.Coding.{Coding}
use Rattle.stripes.specs.Stripes.{is_mark}
use Rattle.stripes.proofs.Standing.{sec, label_off, same_row, same_sector, Cells, Zeros, Stored, as_fresh, as_kept, Stand, no_drive, trusts, lacks_it, Fit, stand_fit}

pub gone_same : (s : ℕ) (b : List ℕ) (x : Slot) → is_gone (written_to s b x) ≡ is_gone x
unfolding written_to is_gone
gone_same s b gone = refl
gone_same s b (there d) = refl

pub written_there : (s : ℕ) (b : List ℕ) (x : Slot) → is_gone x ≡ false → sight s (written_to s b x) ≡ sees b
unfolding is_gone
written_there s b gone e = absurd (true≢false e)
written_there s b (there d) e = sight_write s b d

module _ (K : Codec) (Z : Coding) (R : ℕ) where
  -- LESS IS KNOWN of c than of o
  pub record Less (c o : Cells K Z R) : Type 0 where
    pub keeps : (r : ℕ) (b : Z.Row) → c r ≡ kept b → o r ≡ kept b
    pub freshes : (r : ℕ) (b : Z.Row) → c r ≡ fresh b → o r ≡ fresh b
    pub nevers : (r : ℕ) → c r ≡ rows.never → o r ≡ rows.never

  stored_less : {c o : Cells K Z R} → Less c o → (r : ℕ) (y : Cell Z.Row) (b : Z.Row) → c r ≡ y → Stored K Z R y b → Stored K Z R (o r) b
  stored_less l r y b e as_fresh = subst⁻¹ (λ y. Stored K Z R y b) (l.freshes r b e) as_fresh
  stored_less l r y b e as_kept = subst⁻¹ (λ y. Stored K Z R y b) (l.keeps r b e) as_kept

  pub zeros_less : {c o : Cells K Z R} {x : Slot} → Less c o → Zeros K Z R o x → Zeros K Z R c x
  zeros_less l h r k a b e = h r k a b (l.nevers r e)

  pub stand_less : {c o : Cells K Z R} {W : Type 0} {q : Record K.V} {p n i : ℕ} {x : Slot} → Less c o → Stand K Z R o W q p n i x → Stand K Z R c W q p n i x
  stand_less l (no_drive w) = no_drive w
  stand_less l (trusts h a b) = trusts h (λ r k e u v y. a r k e u v (l.keeps r e y)) (λ r k e u v y. b r k e u v (l.freshes r e y))
  stand_less {c} l (lacks_it w h a b) = lacks_it w h (λ t r k e u v y z. a t r k e u v y (stored_less l r (c r) e refl z)) b

  -- A row r of which nothing is known
  module _ (r : ℕ) where
    abbrev pub without : Cells K Z R → Cells K Z R
    without c = put r unknown c

    pub spared : (c : Cells K Z R) (q : ℕ) {y : Cell Z.Row} → without c q ≡ y → (y ≡ unknown → ⊥) → c q ≡ y
    spared c q {y} e n = ⊎_elim (λ p. absurd (n (sym e ∙ ap (put r unknown c) p ∙ put_at_lem r unknown c))) (λ p. sym (put_off r q unknown c p) ∙ e) (same? q r)

    pub without_less : (c : Cells K Z R) → Less (without c) c
    without_less c =
        record {
          keeps = λ q b e. spared c q e (λ z. let z : ◌≡◌ {A = ℕ} 0 1 = cc in omega arith);
          freshes = λ q b e. spared c q e (λ z. let z : ◌≡◌ {A = ℕ} 0 1 = cc in omega arith);
          nevers = λ q e. spared c q e (λ z. let z : ◌≡◌ {A = ℕ} 0 1 = cc in omega arith);
        }

    -- sectors of r may be written: no other row is touched
    module _ (c : Cells K Z R) (free : c r ≡ unknown) (k : ℕ) (a : k < 8) (b : List ℕ) where
      apart : (q j : ℕ) {y : Cell Z.Row} → c q ≡ y → (y ≡ unknown → ⊥) → j < 8 → sec q j ≡ sec r k → ⊥
      apart q j e n l z = n (sym e ∙ ap c (same_row q j r k l a z) ∙ free)

      kept_apart : (q j : ℕ) (e : Z.Row) → c q ≡ kept e → j < 8 → sec q j ≡ sec r k → ⊥
      kept_apart q j e y = apart q j y (λ z. let z : ◌≡◌ {A = ℕ} 0 1 = cc in omega arith)

      fresh_apart : (q j : ℕ) (e : Z.Row) → c q ≡ fresh e → j < 8 → sec q j ≡ sec r k → ⊥
      fresh_apart q j e y = apart q j y (λ z. let z : ◌≡◌ {A = ℕ} 0 1 = cc in omega arith)

      stored_apart : (q j : ℕ) (e : Z.Row) (y : Cell Z.Row) → c q ≡ y → Stored K Z R y e → j < 8 → sec q j ≡ sec r k → ⊥
      stored_apart q j e y p as_fresh = fresh_apart q j e p
      stored_apart q j e y p as_kept = kept_apart q j e p

      pub zeros_write : {x : Slot} → Zeros K Z R c x → Zeros K Z R c (written_to (sec r k) b x)
      zeros_write h q j l o e = holds_write_off b (apart q j e (λ z. let z : ◌≡◌ {A = ℕ} 0 1 = cc in omega arith) o) (h q j l o e)

      pub stand_write : {W : Type 0} {o : Record K.V} {p n i : ℕ} {x : Slot} → Stand K Z R c W o p n i x → Stand K Z R c W o p n i (written_to (sec r k) b x)
      unfolding written_to
      stand_write (no_drive w) = no_drive w
      stand_write {x = x} (trusts h u v) =
          trusts (holds_write_off b (label_off r k) h)
          (λ q j e l o y. holds_write_off b (kept_apart q j e y o) (u q j e l o y))
          (λ q j e l o y. sight_write_off (sec q j) (sec r k) b x (fresh_apart q j e y o) ∙ v q j e l o y)
      stand_write {x = x} (lacks_it w h u v) =
          let e = shown_write_off 0 (sec r k) b x (label_off r k) in
          lacks_it w (holds_write_off b (label_off r k) h)
          (λ t q j e l o y z. sight_write_off (sec q j) (sec r k) b x (stored_apart q j e (c q) refl z o) ∙ u (sym (ap (λ s. is_mark (K.decode s)) (shown_write_off 0 (sec r k) b x (label_off r k))) ∙ t) q j e l o y z)
          (λ t. v (sym (ap (λ s. is_mark (K.decode s)) e) ∙ t))

    -- THE WHOLE ROW

    -- the sectors from n on were written, where there is a drive
    abbrev pub Wrote : Z.Row → ℕ → ℕ → Slot → Type 0
    Wrote b n i x = (k : ℕ) → n ≤ k → k < 8 → is_gone x ≡ false → sight (sec r k) x ≡ sees (Z.shard b k i)

    wrote_more : (b : Z.Row) (n i : ℕ) (x : Slot) → n < 8 → Wrote b (suc n) i x → Wrote b n i (written_to (sec r n) (Z.shard b n i) x)
    wrote_more b n i x o h k l a e = ⊎_elim same other (same? k n)
      where
        y : Slot
        y = written_to (sec r n) (Z.shard b n i) x

        is : is_gone x ≡ false
        is = sym (gone_same (sec r n) (Z.shard b n i) x) ∙ e

        same : k ≡ n → sight (sec r k) y ≡ sees (Z.shard b k i)
        same p = subst⁻¹ (λ m. sight (sec r m) y ≡ sees (Z.shard b m i)) p (written_there (sec r n) (Z.shard b n i) x is)

        other : (k ≡ n → ⊥) → sight (sec r k) y ≡ sees (Z.shard b k i)
        other p = sight_write_off (sec r k) (sec r n) (Z.shard b n i) x (λ z. p (same_sector r k r n a o z)) ∙ h k (omega arith) a is

    module _ {A : Type 0} {I : Drives → Type 0} {Q : A → Drives → Type 0} (c : Cells K Z R) (free : c r ≡ unknown) (W : ℕ → Type 0) (q : Record K.V) (p n : ℕ) (b : Z.Row)
        (stop : (e : Drives) → Each (λ i x. Fit K Z R c (W i) (W i) (λ o. o ≡ q) i x) e → I e) {rest : Io A}
        (end : (e : Drives) → Each (λ i x. Stand K Z R c (W i) q p n i x × Zeros K Z R c x × Wrote b 0 i x) e → Does I Q rest e) where
      abbrev At : ℕ → ℕ → Slot → Type 0
      At m i x = Stand K Z R c (W i) q p n i x × Zeros K Z R c x × Wrote b m i x

      step : (m i : ℕ) (x : Slot) → m < 8 → At (suc m) i x → At m i (written_to (sec r m) (Z.shard b m i) x)
      step m i x l (h, z, w) = (stand_write c free m l (Z.shard b m i) h, zeros_write c free m l (Z.shard b m i) z, wrote_more b m i x l w)

      pub does_write_row : {d : Drives} → Each (λ i x. Stand K Z R c (W i) q p n i x × Zeros K Z R c x) d → Does I Q (on_each 8 (λ k. on_each 6 (write_if (λ i. true) (sec r k) (Z.shard b k))) rest) d
      does_write_row h =
          does_loop {f = λ k. on_each 6 (write_if (λ i. true) (sec r k) (Z.shard b k))} (λ m e. (m ≤ 8) × Each (At m) e)
          (λ m o d (l, g) go. does_each {F = At (suc m)} {G = At m} {J = λ i x. Fit K Z R c (W i) (W i) (λ o. o ≡ q) i x} (acts_write (λ i. true) (sec r m) (Z.shard b m)) stop
          (λ i x (a, z, w). stand_fit K Z R a z) (λ i x (a, z, w). stand_fit K Z R a z) (λ i x k y. step m i x (omega arith) y) (λ e y. go e (omega arith, y)) g)
          (λ e (l, g). end e g)
          8 (omega arith, λ i l. ((h i l).0, (h i l).1, λ k a b. absurd (omega arith)))
