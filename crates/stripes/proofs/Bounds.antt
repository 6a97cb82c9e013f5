-- All that is asked is fair, a stretch is short, and little is asked for.
-- Assumes nothing.
use mathlib.Core.Path.{◌≡◌, refl, sym, ◌∙◌, ap, subst}
use mathlib.Core.Logic.{⊎_elim}
use mathlib.Core.Bool.{Bool, true, false, cond}
use mathlib.Core.Option.{Option, none, some}
use mathlib.Core.List.{List, []}
use Prim.Native.Nat.{ℕ, zero, suc, ◌+◌, ◌-◌, ◌*◌, ◌<◌, ◌≤◌}
use native.Mathlib.Omega.{arith}
use lib.Dec.{T, ltb, ltb→lt}
use Rattle.drives.specs.Drives.{smallest, Drives, shown, put, Io, ops_of, Fair}
use Rattle.drives.specs.Machines.{longest}
use Rattle.crash.specs.Loops.{count}
use Rattle.crash.specs.Refinement.{Few}
use Rattle.crash.specs.RefinementBy.{Whole, IsSector, BoundedBy}
use Rattle.crash.proofs.Wholes.{shown_whole}
use Rattle.crash.proofs.Counts.{count_same, count_first, few_pass, four_first}
use Rattle.crash.proofs.Does.{Each, Read}
use Rattle.crash.proofs.Fairness.{FairAnywhere, AtMost, fair_each, fair_write, fair_sync, fair_read_all, ops_answer, ops_each, ops_write, ops_sync, ops_read_all, ops_more, ops_writes, ops_reads, ops_read_at, fair_read_at, fair_read_if, FairSound, sound_writes}
use Rattle.root.specs.Root.{Label, missing, rebuilding, has, Record, Codec, Lawful, is_there, trusted, lowest}
use Rattle.rows.specs.Rows.{Call, ReadRow, WriteRow, SetRoot, GetRoot, rows_in}
use Rattle.stripes.specs.Coding.{Coding, LawfulCoding, OfFour}
use Rattle.stripes.specs.Stripes.{read_row, write_row, no_row, says, rejoin, mark_all, is_any_new, is_any_bare, sector_at, place_of, places, is_bare, taken, picked, Mem, Answered, Mended, placed, settle, opening, gather_row, does, rebuild_one, rebuild_from, finish, ahead, stretch, mending, stripes, judge, AsksLittle}
use Rattle.stripes.proofs.Standing.{sec}
use Rattle.stripes.proofs.Invariant.{St, Off, On}
use Rattle.stripes.proofs.Reading.{Source, stand_source}
use Rattle.stripes.proofs.Mending.{and_left, not_is}

encode_whole : (K : Codec) → Lawful K → (l : Label K.V) → (l ≡ missing → ⊥) → IsSector (K.encode l)
encode_whole K law l n = (⊎_elim (λ e. absurd (n e)) (λ e. e) (law.whole l), law.bytes l)

record_whole : (K : Codec) → Lawful K → (q : Record K.V) → IsSector (K.encode (has q))
record_whole K law q = encode_whole K law (has q) (λ e. let z : ◌≡◌ {A = ℕ} 0 1 = cc in omega arith)

mark_whole : (K : Codec) → Lawful K → IsSector (K.encode rebuilding)
mark_whole K law = encode_whole K law rebuilding (λ e. let z : ◌≡◌ {A = ℕ} 0 1 = cc in omega arith)

-- sectors of rows are sectors of drives
sector_low : (size r k : ℕ) → smallest ≤ size → r < rows_in size → k < 8 → sec r k < size
sector_low size r k l h a = omega arith

place_low : (size p : ℕ) → smallest ≤ size → p < places size → sector_at p < size
place_low size p l h = omega arith

module _ (K : Codec) (law : Lawful K) (Z : Coding) (cod : LawfulCoding Z) (size : ℕ) (lo : smallest ≤ size) where
  -- FAIR, whatever drives hold

  fair_settle : {A : Type 0} (t : ℕ → Bool) (q : Record K.V) (a : A) → FairAnywhere size (settle K t q a)
  unfolding settle
  fair_settle t q a = fair_each 6 (fair_write t (λ i. K.encode (has q)) (omega arith) (λ i b. (record_whole K law q).0) (λ i b. (record_whole K law q).1)) (fair_each 6 fair_sync (λ d. Fair.ends a d))

  fair_opening : (o : Option K.V) (f : ℕ → List ℕ) → FairAnywhere size (opening K size o f)
  unfolding opening
  fair_opening none f = fair_settle _ _ _
  fair_opening (some v) f = fair_settle _ _ _

  fair_rows : {A : Type 0} (t : ℕ → Bool) (s : ℕ) {k : (ℕ → ℕ → List ℕ) → Io A} → s + 7 < size → ((g : ℕ → ℕ → List ℕ) → FairAnywhere size (k g)) → (n : ℕ) → n ≤ 8 → (g : ℕ → ℕ → List ℕ) → FairAnywhere size (gather_row t s n g k)
  unfolding gather_row
  fair_rows t s l h zero c g d = h g d
  fair_rows t s l h (suc n) c g d = fair_read_if t (s + n) (omega arith) (λ f r. fair_rows t s l h n (omega arith) (put n f g) d)

  fair_call : (c : Call Z.Row K.V) (m : Mem K.V) → m.size ≡ size → FairAnywhere size (does K Z c m)
  unfolding does
  fair_call (ReadRow r) m e d = go (ltb r (rows_in m.size)) refl
    where
      go : (v : Bool) → ltb r (rows_in m.size) ≡ v →
          Fair size {A = Answered K Z} (cond v (read_row K Z r m) (no_row K Z m)) d
      go true t =
          let l : r < rows_in size = subst (λ z. r < rows_in z) e (ltb→lt r (rows_in m.size) (subst T (sym t) tt)) in
          fair_read_all (omega arith) (λ f. fair_rows (taken K f) (sector_at (place_of r 0)) (omega arith) (λ g d. Fair.ends _ d) 8 (omega arith) (λ k i. [])) d
      go false t = Fair.ends _ d
  fair_call (WriteRow r b) m e d = go (ltb r (rows_in m.size)) refl
    where
      go : (v : Bool) → ltb r (rows_in m.size) ≡ v →
          Fair size {A = Answered K Z} (cond v (write_row K Z r b m) (no_row K Z m)) d
      go true t =
          let l : r < rows_in size = subst (λ z. r < rows_in z) e (ltb→lt r (rows_in m.size) (subst T (sym t) tt)) in
          fair_each 8 (λ k q a h. fair_each 6 (fair_write (λ i. true) (Z.shard b k) (sector_low size r k lo l a) (λ i c. (cod.shard_whole b k i a c).0) (λ i c. (cod.shard_whole b k i a c).1)) h) (λ d. Fair.ends _ d) d
      go false t = Fair.ends _ d
  fair_call (SetRoot v) m e d = fair_each 6 fair_sync (fair_read_all (omega arith) (λ f. fair_settle _ _ _)) d
  fair_call GetRoot m e d = Fair.ends _ d

  -- FAIR WHERE FOUR DRIVES ARE READ FROM

  module _ (f : ℕ → List ℕ) (four : count (taken K f) 6 ≡ 4) where
    there_as : (v : Bool) (x : List ℕ) → is_there (cond v (some x) none) ≡ v
    there_as true x = refl
    there_as false x = refl

    of_four : (h : ℕ → List ℕ) → OfFour (picked (taken K f) h)
    of_four h = count_same _ (taken K f) 6 (λ i o. there_as (taken K f i) (h i)) ∙ four

    picked_is : (h : ℕ → List ℕ) (i : ℕ) (b : List ℕ) (v : Bool) → cond v (some (h i)) none ≡ some b → (v ≡ true) × (h i ≡ b)
    picked_is h i b true e = (refl, cc)
    picked_is h i b false e = let z : ◌≡◌ {A = ℕ} 0 1 = cc in absurd (omega arith)

    fair_one : {q : Io (Mended K)} (p : ℕ) → sector_at p < size → FairSound (λ i. trusted K (f i)) size q → FairSound (λ i. trusted K (f i)) size (rebuild_one K Z f p q)
    unfolding rebuild_one
    fair_one p l k d g = fair_read_if (taken K f) (sector_at p) l (λ h got. sound_writes _ (λ i. is_bare K (f i)) (sector_at p) _ l (cod.fill_whole (picked (taken K f) h) (of_four h) (λ i b y e. whole h got i b y (picked_is h i b (taken K f i) e))) k 6 (omega arith) d g)
      where
        whole : (h : ℕ → List ℕ) → ((i : ℕ) → i < 6 → taken K f i ≡ true → h i ≡ shown (d i) (sector_at p)) → (i : ℕ) (b : List ℕ) → i < 6 → (taken K f i ≡ true) × (h i ≡ b) → IsSector b
        whole h got i b y (t, e) = subst IsSector (sym (got i y t) ∙ e) (shown_whole (d i) (sector_at p) (g.present i y (and_left (trusted K (f i)) _ t)) (g.whole i))

    fair_from : {q : Io (Mended K)} (k p : ℕ) → k ≤ places size - p → FairSound (λ i. trusted K (f i)) size q → FairSound (λ i. trusted K (f i)) size (rebuild_from K Z f k p q)
    unfolding rebuild_from
    fair_from zero p l h = h
    fair_from (suc k) p l h = fair_one p (place_low size p lo (omega arith)) (fair_from k (suc p) (omega arith) h)

    fair_finish : (m : Mem K.V) → FairAnywhere size (finish K f m)
    unfolding finish
    fair_finish m d = go (ltb m.place (places m.size))
      where
        go : (v : Bool) → Fair size {A = Mended K} (cond v (says K false m) (rejoin K f m)) d
        go true = Fair.ends _ d
        go false = fair_each 6 fair_sync (fair_settle _ _ _) d

    fair_stretch : (m : Mem K.V) → m.size ≡ size → FairSound (λ i. trusted K (f i)) size (stretch K Z f m)
    unfolding stretch
    fair_stretch m e = let z : places m.size ≡ places size = ap places e in fair_from (ahead m) m.place (omega arith) (λ d g. fair_finish _ d)

    fair_mending : (m : Mem K.V) → m.size ≡ size → FairSound (λ i. trusted K (f i)) size (mending K Z m f)
    unfolding mending
    fair_mending m e d g = go (is_any_bare K f) (is_any_new K f)
      where
        go : (v u : Bool) → Fair size {A = Mended K} (cond v (cond u (mark_all K Z f m) (stretch K Z f m)) (says K true m)) d
        go true true = sound_writes _ (λ i. is_bare K (f i)) 0 (λ i. K.encode rebuilding) (omega arith) (λ i b. mark_whole K law) (fair_stretch (placed 0 m) e) 6 (omega arith) d g
        go true false = fair_stretch m e d g
        go false u = Fair.ends _ d

  -- HOW MUCH IS ASKED FOR

  ops_settle : {A : Type 0} (t : ℕ → Bool) (q : Record K.V) (a : A) → AtMost (6 + count t 6) (settle K t q a)
  unfolding settle
  ops_settle t q a = ops_writes t 0 (λ i. K.encode (has q)) (ops_each 1 ops_sync (ops_answer a) 6) 6

  module _ (f : ℕ → List ℕ) (four : count (taken K f) 6 ≡ 4) (two : count (λ i. is_bare K (f i)) 6 ≤ 2) where
    ops_one : {m : ℕ} {q : Io (Mended K)} (p : ℕ) → AtMost m q → AtMost (m + 6) (rebuild_one K Z f p q)
    unfolding rebuild_one
    ops_one {m} p h = ops_more (omega arith) (ops_reads (taken K f) (sector_at p) (λ g. ops_writes (λ i. is_bare K (f i)) (sector_at p) _ h 6) 6 (λ i. []))

    ops_from : {m : ℕ} {q : Io (Mended K)} (k p : ℕ) → AtMost m q → AtMost (m + k * 6) (rebuild_from K Z f k p q)
    unfolding rebuild_from
    ops_from zero p h = ops_more (omega arith) h
    ops_from (suc k) p h = ops_more (omega arith) (ops_one p (ops_from k (suc p) h))

    ops_finish : (m : Mem K.V) → AtMost 14 (finish K f m)
    unfolding finish
    ops_finish m = go (ltb m.place (places m.size))
      where
        go : (v : Bool) → AtMost {A = Mended K} 14 (cond v (says K false m) (rejoin K f m))
        go true = ops_more (omega arith) (ops_answer _)
        go false = ops_more (omega arith) (ops_each 1 ops_sync (ops_settle (λ i. is_bare K (f i)) m.root _) 6)

    ops_stretch : (m : Mem K.V) → AtMost 4046 (stretch K Z f m)
    unfolding stretch
    ops_stretch m = ops_more (omega arith) (ops_from (ahead m) m.place (ops_finish _))

    ops_mending : (m : Mem K.V) → AtMost 4048 (mending K Z m f)
    unfolding mending
    ops_mending m = go (is_any_bare K f) (is_any_new K f)
      where
        go : (v u : Bool) → AtMost {A = Mended K} 4048 (cond v (cond u (mark_all K Z f m) (stretch K Z f m)) (says K true m))
        go true true = ops_more (omega arith) (ops_writes (λ i. is_bare K (f i)) 0 (λ i. K.encode rebuilding) (ops_stretch (placed 0 m)) 6)
        go true false = ops_more (omega arith) (ops_stretch m)
        go false u = ops_more (omega arith) (ops_answer _)

  -- BOUNDED

  module _ {s : St K Z size} {n : ℕ} {ws : List ℕ} {m : Mem K.V} {d : Drives} (few : Few ws) (w : Whole d) (o : On K Z size s n ws m d) where
    sources : (f : ℕ → List ℕ) → Read 0 d f → Each (Source K law Z cod size s.cells ws f) d
    sources f read i l = let (h, z) = o.drives i l in stand_source K law Z cod size f (read i l) h z

    four : (f : ℕ → List ℕ) → Read 0 d f → count (taken K f) 6 ≡ 4
    four f read = four_first ws few (λ i. trusted K (f i)) (λ i l e. (sources f read i l).is_weak e)

    two : (f : ℕ → List ℕ) → Read 0 d f → count (λ i. is_bare K (f i)) 6 ≤ 2
    two f read = few_pass ws few (λ i. is_bare K (f i)) (λ i l e. (sources f read i l).is_weak (not_is _ (and_left _ _ e)))

    mending_bounded : Fair size ((stripes K Z).mends m) d × (ops_of ((stripes K Z).mends m) d ≤ longest)
    mending_bounded = (
      fair_read_at 0 (mending K Z m) d (omega arith) (λ f read. fair_mending f (four f read) m o.sized d (record { whole = w; present = λ i l e. (sources f read i l).is_there_lem e })),
      omega (arith, ops_read_at 0 (mending K Z m) d (λ f read. (ops_mending f (four f read) (two f read) m).asks d)),
    )

  pub stripes_bounded : BoundedBy (judge K Z size) (stripes K Z) size (Off K Z size) (On K Z size)
  stripes_bounded =
      record {
        opening = λ {d = d} few w h. fair_read_all (omega arith) (λ f. fair_opening _ f) d;
        calling = λ c {m = m} {d = d} few w o. fair_call c m o.sized d;
        mending = λ few w o. mending_bounded few w o;
      }

-- LITTLE IS ASKED FOR
module _ (K : Codec) (Z : Coding) where
  taken_four : (f : ℕ → List ℕ) → count (taken K f) 6 ≤ 4
  taken_four f = omega (arith, count_first (λ i. trusted K (f i)) 6)

  ops_settled : {A : Type 0} (t : ℕ → Bool) (q : Record K.V) (a : A) → AtMost 12 (settle K t q a)
  unfolding settle
  ops_settled t q a = ops_each 1 (ops_write t 0 (λ i. K.encode (has q))) (ops_each 1 ops_sync (ops_answer a) 6) 6

  ops_rows : {A : Type 0} (t : ℕ → Bool) (s : ℕ) {m : ℕ} {k : (ℕ → ℕ → List ℕ) → Io A} → count t 6 ≤ 4 → ((g : ℕ → ℕ → List ℕ) → AtMost m (k g)) → (n : ℕ) (g : ℕ → ℕ → List ℕ) → AtMost (m + n * 4) (gather_row t s n g k)
  unfolding gather_row
  ops_rows t s l h zero g = ops_more (omega arith) (h g)
  ops_rows t s l h (suc n) g = ops_more (omega arith) (ops_reads t (s + n) (λ f. ops_rows t s l h n (put n f g)) 6 (λ i. []))

  module _ (m : Mem K.V) where
    ops_read : (r : ℕ) → AtMost 38 (does K Z (ReadRow r) m)
    unfolding does
    ops_read r = go (ltb r (rows_in m.size))
      where
        go : (v : Bool) → AtMost {A = Answered K Z} 38
            (cond v (read_row K Z r m) (no_row K Z m))
        go true = ops_read_all 0 (λ f. ops_rows (taken K f) (sector_at (place_of r 0)) (taken_four f) (λ g. ops_answer _) 8 (λ k i. []))
        go false = ops_more (omega arith) (ops_answer _)

    ops_write_row : (r : ℕ) (b : Z.Row) → AtMost 48 (does K Z (WriteRow r b) m)
    unfolding does
    ops_write_row r b = go (ltb r (rows_in m.size))
      where
        go : (v : Bool) → AtMost {A = Answered K Z} 48 (cond v (write_row K Z r b m) (no_row K Z m))
        go true = ops_each 6 (λ k n q h. ops_each 1 (ops_write (λ i. true) (sector_at (place_of r k)) (Z.shard b k)) h 6) (ops_answer _) 8
        go false = ops_more (omega arith) (ops_answer _)

    ops_set : (v : K.V) → AtMost 24 (does K Z (SetRoot v) m)
    unfolding does
    ops_set v = ops_each 1 ops_sync (ops_read_all 0 (λ f. ops_settled (λ i. trusted K (f i)) _ _)) 6

  ops_open : (size : ℕ) → AtMost 18 ((stripes K Z).opens size)
  unfolding opening
  ops_open size = ops_read_all 0 (λ f. go (lowest K 6 none f) f)
    where
      go : (o : Option K.V) (f : ℕ → List ℕ) → AtMost 12 (opening K size o f)
      go none f = ops_settled _ _ _
      go (some v) f = ops_settled _ _ _

  pub asks_little : AsksLittle K Z
  asks_little = (λ r m d. (ops_read m r).asks d, λ r b m d. (ops_write_row m r b).asks d, λ v m d. (ops_set m v).asks d, λ size d. (ops_open size).asks d)
