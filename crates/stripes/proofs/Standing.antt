-- What is said of a drive: its label, and the rows that it has.
-- Assumes nothing.
use mathlib.Core.Path.{◌≡◌, refl, ◌∙◌, ap}
use mathlib.Core.Bool.{true, false, true≢false}
use mathlib.Core.Option.{none, some}
use mathlib.Core.List.{List}
use Prim.Native.Nat.{ℕ, ◌<◌}
use native.Mathlib.Omega.{arith}
use Rattle.drives.specs.Drives.{zeros, blank_drive, Slot, gone, there, shown, written_to, synced_one, CutSlot}
use Rattle.drives.specs.Machines.{is_gone}
use Rattle.crash.proofs.Sectors.{Sight, nowhere, sees, sight, text, shown_sight, Holds, away, holds_sight, holds_more, holds_write_off, sight_write_off, sight_sync, holds_sync, holds_cut, holds_blank, Calm, calm_holds, calm_cut}
use Rattle.root.specs.Root.{Record, Codec, record_in}
use Rattle.root.proofs.Root.{May, lacks, shows, bare, may_more}
use Rattle.rows.specs.Rows.{Cell, unknown, fresh, kept, kept_cell, fallen_cell}
use Rattle.rows.specs.Rows as rows
use Rattle.stripes.specs.Coding.{Coding}
use Rattle.stripes.specs.Stripes.{sector_at, place_of, is_mark}

-- SECTORS

-- sector k of the row r, on each drive
abbrev pub sec : ℕ → ℕ → ℕ
sec r k = sector_at (place_of r k)

pub no_label : (r k : ℕ) → sec r k ≡ 0 → ⊥
no_label r k e = omega arith

pub label_off : (r k : ℕ) → 0 ≡ sec r k → ⊥
label_off r k e = omega arith

pub same_row : (q j r k : ℕ) → j < 8 → k < 8 → sec q j ≡ sec r k → q ≡ r
same_row q j r k a b e = omega arith

pub same_sector : (q j r k : ℕ) → j < 8 → k < 8 → sec q j ≡ sec r k → j ≡ k
same_sector q j r k a b e = omega arith

-- x became y: but for the label, all that it may hold it may hold still, or shows the same
pub record Moves (x y : Slot) : Type 1 where
  pub moves : (s : ℕ) (C : Sight → Type 0) → (s ≡ 0 → ⊥) → Holds s C x → Holds s C y

pub record Looks (x y : Slot) : Type 0 where
  pub looks : (s : ℕ) → (s ≡ 0 → ⊥) → sight s y ≡ sight s x

pub label_moves : (b : List ℕ) (x : Slot) → Moves x (written_to 0 b x)
label_moves b x = record { moves = λ s C n. holds_write_off b n }

pub label_looks : (b : List ℕ) (x : Slot) → Looks x (written_to 0 b x)
label_looks b x = record { looks = λ s n. sight_write_off s 0 b x n }

pub sync_moves : (x : Slot) → Moves x (synced_one x)
sync_moves x = record { moves = λ s C n h. holds_sync h }

pub sync_looks : (x : Slot) → Looks x (synced_one x)
sync_looks x = record { looks = λ s n. sight_sync s x }

pub cut_moves : {x y : Slot} → CutSlot x y → Moves x y
cut_moves c = record { moves = λ s C n h. holds_cut c h }

-- what a sector shows where it may hold but one thing
pub holds_is : {s : ℕ} {b : List ℕ} {x : Slot} → Holds s (λ y. y ≡ sees b) x → sight s x ≡ sees b
holds_is h = holds_sight h

pub shown_is : (s : ℕ) {b : List ℕ} (x : Slot) → sight s x ≡ sees b → shown x s ≡ b
shown_is s x e = shown_sight s x ∙ ap text e

pub there_is : (s : ℕ) {b : List ℕ} (x : Slot) → sight s x ≡ sees b → is_gone x ≡ false
unfolding is_gone
there_is s gone e = let z : ◌≡◌ {A = ℕ} 0 1 = cc in absurd (omega arith)
there_is s (there d) e = refl

-- nothing, or zeros
pub data Zero : Sight → Type 0 where
  no_sector : Zero nowhere
  is_zero : Zero (sees (zeros 512))

pub zero_is : (s : ℕ) (x : Slot) → is_gone x ≡ false → Zero (sight s x) → sight s x ≡ sees (zeros 512)
unfolding is_gone
zero_is s gone e z = absurd (true≢false e)
zero_is s (there d) e z = go z
  where
    go : {b : List ℕ} → Zero (sees b) → sees b ≡ sees (zeros 512)
    go is_zero = refl

module _ (K : Codec) (Z : Coding) (R : ℕ) where
  -- ROWS ON A DRIVE

  abbrev pub Cells : Type 0
  Cells = ℕ → Cell Z.Row

  -- every row that is kept is there, whatever a cut leaves
  abbrev pub Has : Cells → ℕ → Slot → Type 0
  Has c i x = (r k : ℕ) (b : Z.Row) → r < R → k < 8 → c r ≡ kept b → Holds (sec r k) (λ y. y ≡ sees (Z.shard b k i)) x

  -- every row that is fresh is shown
  abbrev pub Shows : Cells → ℕ → Slot → Type 0
  Shows c i x = (r k : ℕ) (b : Z.Row) → r < R → k < 8 → c r ≡ fresh b → sight (sec r k) x ≡ sees (Z.shard b k i)

  -- every row that was never written is zeros, on all drives
  abbrev pub Zeros : Cells → Slot → Type 0
  Zeros c x = (r k : ℕ) → r < R → k < 8 → c r ≡ rows.never → Holds (sec r k) Zero x

  pub data Stored : Cell Z.Row → Z.Row → Type 0 where
    as_fresh : {b : Z.Row} → Stored (fresh b) b
    as_kept : {b : Z.Row} → Stored (kept b) b

  -- every row is shown as far as rebuilding is
  abbrev pub Caught : Cells → ℕ → ℕ → Slot → Type 0
  Caught c p i x = (r k : ℕ) (b : Z.Row) → r < R → k < 8 → place_of r k < p → Stored (c r) b → sight (sec r k) x ≡ sees (Z.shard b k i)

  -- s asks for no more than c: what it keeps is kept in c, what it says is zeros is zeros in c, and nothing in it is fresh
  pub record Under (s c : Cells) : Type 0 where
    pub keeps : (r : ℕ) (b : Z.Row) → s r ≡ kept b → c r ≡ kept b
    pub nevers : (r : ℕ) → s r ≡ rows.never → c r ≡ rows.never
    pub plain : (r : ℕ) (b : Z.Row) → s r ≡ fresh b → ⊥

  abbrev pub NoneKept : Cells → Type 0
  NoneKept c = (r : ℕ) (b : Z.Row) → c r ≡ kept b → ⊥

  -- LABELS

  pub data IsRecord (q : Record K.V) : Sight → Type 0 where
    is_record : {b : List ℕ} → record_in K b ≡ some q → IsRecord q (sees b)

  pub data NoRecord : Sight → Type 0 where
    no_record : {b : List ℕ} → record_in K b ≡ none → NoRecord (sees b)

  -- whatever a cut leaves of a drive: W, it may be gone; B, it may have no record; C, the records that it may have; where it has one, it has all rows that are kept
  abbrev pub Fit : Cells → (W B : Type 0) → (Record K.V → Type 0) → ℕ → Slot → Type 0
  Fit c W B C i x = Holds 0 (May K W B (λ q. C q × Has c i x)) x × Zeros c x

  -- the same of a drive whose label is what it shows
  abbrev pub Sit : Cells → (W B : Type 0) → (Record K.V → Type 0) → ℕ → Slot → Type 0
  Sit c W B C i x = Calm 0 x × May K W B (λ q. C q × Has c i x) (sight 0 x) × Zeros c x

  -- A drive while the machine is on: it is gone; or it has the record that all trusted drives have, and all rows; or it lacks a record, and then, if it is marked, it has the rows as far as rebuilding is.
  -- W: it may be gone or lack a record. p: how far rebuilding is. n: how many stretches did not end with all whole; where a drive is not marked, none was made since.
  pub data Stand (c : Cells) (W : Type 0) (q : Record K.V) (p n i : ℕ) : Slot → Type 0 where
    no_drive : W → Stand c W q p n i gone
    trusts : {x : Slot} → Holds 0 (IsRecord q) x → Has c i x → Shows c i x → Stand c W q p n i x
    lacks_it : {x : Slot} → W → Holds 0 NoRecord x → (is_mark (K.decode (shown x 0)) ≡ true → Caught c p i x) → (is_mark (K.decode (shown x 0)) ≡ false → n ≡ 0) → Stand c W q p n i x

  -- HOW THESE MOVE

  pub has_moves : {c : Cells} {i : ℕ} {x y : Slot} → Moves x y → Has c i x → Has c i y
  has_moves m h r k b l a e = m.moves (sec r k) _ (no_label r k) (h r k b l a e)

  pub zeros_moves : {c : Cells} {x y : Slot} → Moves x y → Zeros c x → Zeros c y
  zeros_moves m h r k l a e = m.moves (sec r k) _ (no_label r k) (h r k l a e)

  pub shows_looks : {c : Cells} {i : ℕ} {x y : Slot} → Looks x y → Shows c i x → Shows c i y
  shows_looks m h r k b l a e = m.looks (sec r k) (no_label r k) ∙ h r k b l a e

  pub caught_looks : {c : Cells} {p i : ℕ} {x y : Slot} → Looks x y → Caught c p i x → Caught c p i y
  caught_looks m h r k b l a o e = m.looks (sec r k) (no_label r k) ∙ h r k b l a o e

  pub has_under : {s c : Cells} {i : ℕ} {x : Slot} → Under s c → Has c i x → Has s i x
  has_under u h r k b l a e = h r k b l a (u.keeps r b e)

  pub zeros_under : {s c : Cells} {x : Slot} → Under s c → Zeros c x → Zeros s x
  zeros_under u h r k l a e = h r k l a (u.nevers r e)

  pub no_zeros : (c : Cells) → Zeros c gone
  no_zeros c r k l a e = away no_sector

  pub blank_zeros : (c : Cells) → Zeros c (there blank_drive)
  blank_zeros c r k l a e = holds_blank is_zero

  -- a cut leaves what fits
  pub fit_cut : {c : Cells} {W B : Type 0} {C : Record K.V → Type 0} {i : ℕ} {x y : Slot} → CutSlot x y → Fit c W B C i x → Sit c W B C i y
  fit_cut {i = i} {x = x} {y = y} e (h, z) = (calm_cut 0 e, may_more (λ w. w) (λ b. b) (λ q (p, k). (p, has_moves (cut_moves e) k)) _ (holds_sight (holds_cut e h)), zeros_moves (cut_moves e) z)

  pub sit_fit : {c : Cells} {W B : Type 0} {C : Record K.V → Type 0} {i : ℕ} {x : Slot} → Sit c W B C i x → Fit c W B C i x
  sit_fit (k, m, z) = (calm_holds k m, z)

  pub fit_more : {s c : Cells} {W B B' : Type 0} {C C' : Record K.V → Type 0} {i : ℕ} {x : Slot} → (B → B') → ((q : Record K.V) → C q → C' q) →
      (Has c i x → Has s i x) → (Zeros c x → Zeros s x) → Fit c W B C i x → Fit s W B' C' i x
  fit_more b p k l (h, z) = (holds_more (may_more (λ w. w) b (λ q (x, y). (p q x, k y))) h, l z)

  -- a drive as it stands fits
  pub stand_fit : {c : Cells} {W : Type 0} {q : Record K.V} {p n i : ℕ} {x : Slot} → Stand c W q p n i x → Zeros c x → Fit c W W (λ o. o ≡ q) i x
  stand_fit (no_drive w) z = (away (lacks w), z)
  stand_fit {c} {W} {q} {i = i} {x = x} (trusts h k s) z = (holds_more seen h, z)
    where
      seen : (y : Sight) → IsRecord q y → May K W W (λ o. (o ≡ q) × Has c i x) y
      seen y (is_record e) = shows q e (refl, k)
  stand_fit {c} {W} {q} {i = i} {x = x} (lacks_it w h a b) z = (holds_more seen h, z)
    where
      seen : (y : Sight) → NoRecord y → May K W W (λ o. (o ≡ q) × Has c i x) y
      seen y (no_record e) = bare e w
