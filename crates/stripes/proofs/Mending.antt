-- A stretch of mending.
-- Assumes nothing.
use mathlib.Core.Path.{◌≡◌, refl, sym, ◌∙◌, ap, subst, subst⁻¹}
use mathlib.Core.Logic.{◌⊎◌, inl, inr, ⊎_elim}
use mathlib.Core.Bool.{Bool, true, false, cond, not, ◌&&◌, true≢false}
use mathlib.Core.Option.{none, some}
use mathlib.Core.List.{List}
use Prim.Native.Nat.{ℕ, zero, suc, ◌+◌, ◌-◌, ◌*◌, ◌/◌, ◌%◌, ◌<◌, ◌≤◌}
use native.Mathlib.Omega.{arith}
use lib.Dec.{T, eqb, ltb, ltb→lt, nltb→le}
use lib.ListN.{length}
use Rattle.drives.specs.Drives.{zeros, Slot, gone, there, Drives, shown, written_to, synced_one, Io}
use Rattle.drives.specs.Machines.{is_gone, still_gone, weak_after}
use Rattle.crash.specs.Refinement.{Does, Cuts, Few, counted}
use Rattle.crash.specs.RefinementBy.{Whole}
use Rattle.crash.proofs.Updates.{same?}
use Rattle.crash.proofs.Sectors.{Sight, sees, sight, Holds, holds_sight, holds_write, holds_write_off, holds_sync, holds_synced, sight_write, sight_write_off, sight_sync, shown_sync, shown_write_off}
use Rattle.crash.proofs.Weak.{Weak, weak_gone}
use Rattle.crash.proofs.Wholes.{shown_whole}
use Rattle.crash.proofs.Counts.{any_true, any_false}
use Rattle.crash.proofs.Does.{does_answer, Each, does_each, acts_sync, acts_write, written_if, Read, does_read_all, does_read_if}
use Rattle.root.specs.Root.{Record, has, rebuilding, Codec, Lawful, record_in, record_of, is_there, trusted}
use Rattle.root.proofs.Root.{May, lacks, shows, bare, missing_bare}
use Rattle.rows.specs.Rows.{Cell}
use Rattle.stripes.specs.Coding.{Coding, LawfulCoding}
use Rattle.stripes.specs.Stripes.{says, rejoin, mark_all, is_any_new, is_any_bare, sector_at, place_of, places, is_mark, is_bare, is_new, taken, picked, Mem, Mended, placed, stride, rebuild_one, rebuild_from, finish, ahead, stretch, mending, soon, stripes, judge}
use Rattle.stripes.proofs.Standing.{sec, shown_is, label_moves, label_looks, sync_moves, sync_looks, zeros_moves, shows_looks, Has, Shows, Zeros, Zero, is_zero, Stored, as_fresh, as_kept, Caught, IsRecord, is_record, NoRecord, no_record, Fit, Stand, no_drive, trusts, lacks_it, stand_fit, has_moves}
use Rattle.stripes.proofs.Settling.{Settles, Before, After, does_settle}
use Rattle.stripes.proofs.Invariant.{St, R, Rows, Off, On, Stands, under_fallen, cuts_settled, undone, stand_final}
use Rattle.stripes.proofs.Writing.{gone_same, written_there}
use Rattle.stripes.proofs.Calls.{gone_sync, gone_there}
use Rattle.stripes.proofs.Reading.{Content, of_never, of_fresh, of_kept, Source, row_shards, record_shown, record_there, bare_shown, bare_there, gone_shown}

-- TESTS

pub and_left : (a b : Bool) → (a && b) ≡ true → a ≡ true
and_left true b e = refl
and_left false b e = e

and_right : (a b : Bool) → (a && b) ≡ true → b ≡ true
and_right true b e = e
and_right false b e = absurd (true≢false (sym e))

pub not_is : (b : Bool) → not b ≡ true → b ≡ false
not_is true e = absurd (true≢false (sym e))
not_is false e = refl

-- a place is a sector of a row
pub place_is : (p : ℕ) → p ≡ place_of (p / 8) (p % 8)
place_is p = omega arith

pub place_row : (p n : ℕ) → p < 8 * n → p / 8 < n
place_row p n l = omega arith

pub soon_is : (n size : ℕ) → n * stride ≤ size → n < soon size
soon_is n size l = omega arith

module _ (K : Codec) (law : Lawful K) (Z : Coding) (cod : LawfulCoding Z) (size : ℕ) where
  mark_bare : record_in K (K.encode rebuilding) ≡ none
  mark_bare = ap record_of (law.there rebuilding)

  mark_marks : is_mark (K.decode (K.encode rebuilding)) ≡ true
  mark_marks = ap is_mark (law.there rebuilding)

  -- WHAT A LABEL SAYS of how a drive stands

  gone_bare : is_bare K (shown gone 0) ≡ false
  unfolding shown
  gone_bare = ap (λ o. not (is_there o) && false) (missing_bare K law)

  trusts_bare : {q : Record K.V} (b : List ℕ) → record_in K b ≡ some q → is_bare K b ≡ false
  trusts_bare b e = ap (λ o. not (is_there o) && not (eqb (length b) 0)) e

  long : (b : List ℕ) → length b ≡ 512 → eqb (length b) 0 ≡ false
  long b e = ap (λ n. eqb n 0) e

  lacks_bare : (b : List ℕ) → record_in K b ≡ none → length b ≡ 512 → is_bare K b ≡ true
  lacks_bare b e l = ap (λ o. not (is_there o) && not (eqb (length b) 0)) e ∙ ap not (long b l)

  -- new, or marked
  bare_new : (b : List ℕ) → is_bare K b ≡ true → is_new K b ≡ false → is_mark (K.decode b) ≡ true
  bare_new b e n = go (is_mark (K.decode b)) (subst (λ v. (v && not (is_mark (K.decode b))) ≡ false) e n)
    where
      go : (v : Bool) → (true && not v) ≡ false → v ≡ true
      go true p = refl
      go false p = absurd (true≢false p)

  new_mark : (b : List ℕ) → is_new K b ≡ true → is_mark (K.decode b) ≡ false
  new_mark b e = not_is _ (and_right (is_bare K b) _ e)

  -- what a stretch comes to, and what a cut in it leaves
  abbrev pub Comes : St K Z size → ℕ → List ℕ → Mended K → Drives → Type 0
  Comes s n ws x f = (x.whole ≡ false → suc n < soon size) × On K Z size s (counted x.whole n) (weak_after x.whole f ws) x.mem f

  abbrev pub Lets : St K Z size → List ℕ → Drives → Type 0
  Lets s ws = Cuts (Off K Z size ((judge K Z size).Down s) ws)

  module _ {s : St K Z size} {n : ℕ} {ws : List ℕ} {m : Mem K.V} {d : Drives} (few : Few ws) (w : Whole d) (o : On K Z size s n ws m d) (f : ℕ → List ℕ) (read : Read 0 d f) where
    abbrev c : Rows K Z size
    c = s.cells

    -- A drive while it is rebuilt: it is gone; or it is trusted, and read from; or it is marked, and has the rows below p.
    data Work (p i : ℕ) : Slot → Type 0 where
      no_more : Weak ws i → trusted K (f i) ≡ false → Work p i gone
      source : {x : Slot} → trusted K (f i) ≡ true → is_bare K (f i) ≡ false → Holds 0 (IsRecord K Z (R K Z size) m.root) x → Has K Z (R K Z size) c i x → Shows K Z (R K Z size) c i x → Work p i x
      filling : {x : Slot} → Weak ws i → trusted K (f i) ≡ false → is_bare K (f i) ≡ true → Holds 0 (NoRecord K Z (R K Z size)) x → is_mark (K.decode (shown x 0)) ≡ true → Caught K Z (R K Z size) c p i x → Work p i x

    abbrev Works : ℕ → ℕ → Slot → Type 0
    Works p i x = Work p i x × Zeros K Z (R K Z size) c x

    work_stand : {p i : ℕ} {x : Slot} (t : ℕ) → Work p i x → Stand K Z (R K Z size) c (Weak ws i) m.root p t i x
    work_stand t (no_more w e) = no_drive w
    work_stand t (source e b h a u) = trusts h a u
    work_stand t (filling w e b h k a) = lacks_it w h (λ z. a) (λ z. absurd (true≢false (sym k ∙ z)))

    work_source : {p i : ℕ} {x : Slot} → Works p i x → Source K law Z cod size c ws f i x
    work_source (no_more w e, z) = record { is_there_lem = λ t. absurd (true≢false (sym t ∙ e)); has_kept = λ t. absurd (true≢false (sym t ∙ e)); shows_fresh = λ t. absurd (true≢false (sym t ∙ e)); is_weak = λ t. w; has_zeros = z }
    work_source {x = x} (source e b h a u, z) = record { is_there_lem = λ t. record_there K law Z cod size x (holds_sight h); has_kept = λ t. a; shows_fresh = λ t. u; is_weak = λ t. absurd (true≢false (sym e ∙ t)); has_zeros = z }
    work_source (filling w e b h k a, z) = record { is_there_lem = λ t. absurd (true≢false (sym t ∙ e)); has_kept = λ t. absurd (true≢false (sym t ∙ e)); shows_fresh = λ t. absurd (true≢false (sym t ∙ e)); is_weak = λ t. w; has_zeros = z }

    abbrev Fits : ℕ → Slot → Type 0
    Fits i x = Fit K Z (R K Z size) c (Weak ws i) (Weak ws i) (λ q. q ≡ m.root) i x

    work_fit : (p i : ℕ) (x : Slot) → Works p i x → Fits i x
    work_fit p i x (h, z) = stand_fit K Z (R K Z size) (work_stand 0 h) z

    stop : (e : Drives) → Each Fits e → Lets s ws e
    stop = cuts_settled K Z size c (undone K Z size o refl (under_fallen K Z size c))

    -- ONE PLACE

    module _ (p : ℕ) (l : p < 8 * R K Z size) {e : Drives} (g : Each (Works p) e) (h : ℕ → List ℕ) (got : (i : ℕ) → i < 6 → taken K f i ≡ true → h i ≡ shown (e i) (sector_at p)) where
      abbrev fills : ℕ → List ℕ
      fills = Z.fill (picked (taken K f) h)

      -- what is written is the shard of the row, where that is known
      filled : {b : Z.Row} (r k i : ℕ) → r < R K Z size → k < 8 → i < 6 → place_of r k ≡ p → Content K law Z cod size (c r) b → fills i ≡ Z.shard b k i
      filled {b} r k i u v y q con =
          cod.fills b k _ v (row_shards K law Z cod size u v few (λ j t. work_source (g j t)) con h (λ j t z. got j t z ∙ ap (λ a. shown (e j) (sector_at a)) (sym q))) i y

      -- another sector, or this one
      here? : (r k : ℕ) → (sec r k ≡ sector_at p → ⊥) ⊎ (place_of r k ≡ p)
      here? r k = ⊎_elim (λ z. inr z) (λ z. inl (λ y. z (omega arith))) (same? (place_of r k) p)

      stored_content : {b : Z.Row} (y : Cell Z.Row) → Stored K Z (R K Z size) y b → Content K law Z cod size y b
      stored_content y as_fresh = of_fresh
      stored_content y as_kept = of_kept

      written_at : (i : ℕ) (x : Slot) → is_gone x ≡ false → (r k : ℕ) → place_of r k ≡ p → sight (sec r k) (written_to (sector_at p) (fills i) x) ≡ sees (fills i)
      unfolding is_gone
      written_at i gone t r k q = absurd (true≢false t)
      written_at i (there d) t r k q = subst⁻¹ (λ a. sight (sector_at a) (written_to (sector_at p) (fills i) (there d)) ≡ sees (fills i)) q (sight_write (sector_at p) (fills i) d)

      fill_zeros : (i : ℕ) (x : Slot) → i < 6 → Zeros K Z (R K Z size) c x → Zeros K Z (R K Z size) c (written_to (sector_at p) (fills i) x)
      fill_zeros i x y z r k u v t = ⊎_elim (λ a. holds_write_off (fills i) a (z r k u v t)) at (here? r k)
        where
          zero : place_of r k ≡ p → fills i ≡ zeros 512
          zero q = filled r k i u v y q (subst⁻¹ (λ a. Content K law Z cod size a Z.zero_row) t of_never) ∙ cod.zero_shard k i v y

          at : place_of r k ≡ p → Holds (sec r k) Zero (written_to (sector_at p) (fills i) x)
          at q = subst (λ a. Holds (sec r k) Zero (written_to (sector_at a) (fills i) x)) q (holds_write (fills i) (subst⁻¹ (λ a. Zero (sees a)) (zero q) is_zero) (z r k u v t))

      fill_caught : (i : ℕ) (x : Slot) → i < 6 → is_gone x ≡ false → Caught K Z (R K Z size) c p i x → Caught K Z (R K Z size) c (suc p) i (written_to (sector_at p) (fills i) x)
      fill_caught i x y t a r k b u v j st =
          ⊎_elim (λ q. sight_write_off (sec r k) (sector_at p) (fills i) x q ∙ a r k b u v (⊎_elim (λ z. absurd (q (ap sector_at z))) (λ z. omega arith) (same? (place_of r k) p)) st)
          (λ q. written_at i x t r k q ∙ ap sees (filled r k i u v y q (stored_content (c r) st))) (here? r k)

      fill_one : (i : ℕ) (x : Slot) → i < 6 → Works p i x → Works (suc p) i (written_if (λ j. is_bare K (f j)) (sector_at p) fills i x)
      unfolding written_to
      fill_one i gone y (no_more w t, z) = go (is_bare K (f i))
        where
          go : (v : Bool) → Works (suc p) i (cond v gone gone)
          go true = (no_more w t, z)
          go false = (no_more w t, z)
      fill_one i x y (source t b k a u, z) = subst⁻¹ (λ v. Works (suc p) i (cond v (written_to (sector_at p) (fills i) x) x)) b (source t b k a u, z)
      fill_one i x y (filling w t b k q a, z) =
          subst⁻¹ (λ v. Works (suc p) i (cond v (written_to (sector_at p) (fills i) x) x)) b (
            filling w t b (holds_write_off (fills i) (λ e. let e : 0 ≡ 8 + p = e in omega arith) k)
                (ap (λ b. is_mark (K.decode b)) (shown_write_off 0 (sector_at p) (fills i) x (λ e. let e : 0 ≡ 8 + p = e in omega arith)) ∙ q)
                (fill_caught i x y (bare_there K law Z cod size x (holds_sight k)) a),
            fill_zeros i x y z,
          )

    rebuilds_one : {q : Io (Mended K)} (p : ℕ) → p < 8 * R K Z size → {e : Drives} → Each (Works p) e → ((g : Drives) → Each (Works (suc p)) g → Does (Lets s ws) (Comes s n ws) q g) → Does (Lets s ws) (Comes s n ws) (rebuild_one K Z f p q) e
    unfolding rebuild_one
    rebuilds_one p l {e} g next = does_read_if (taken K f) (sector_at p) (λ h got.
        does_each {F = Works p} {G = Works (suc p)} {J = Fits} (acts_write (λ i. is_bare K (f i)) (sector_at p) (Z.fill (picked (taken K f) h))) stop (work_fit p) (work_fit (suc p)) (fill_one p l g h got) next g)

    rebuilds : {q : Io (Mended K)} (k p : ℕ) → k ≤ 8 * R K Z size - p → {e : Drives} → Each (Works p) e → ((g : Drives) → Each (Works (p + k)) g → Does (Lets s ws) (Comes s n ws) q g) → Does (Lets s ws) (Comes s n ws) (rebuild_from K Z f k p q) e
    unfolding rebuild_from
    rebuilds zero p l {e} g next = next e (subst⁻¹ (λ a. Each (Works a) e) (let z : p + 0 ≡ p = omega arith in z) g)
    rebuilds {q} (suc k) p l {e} g next = rebuilds_one p (omega arith) g (λ y h. rebuilds k (suc p) (omega arith) h (λ y j. next y (subst (λ a. Each (Works a) y) (let z : suc p + k ≡ p + suc k = omega arith in z) j)))

    -- THE END OF A STRETCH

    -- all places are done: what was rebuilt is synced, then it gets the record
    module _ (p : ℕ) (all : 8 * R K Z size ≤ p) where
      abbrev Ready : ℕ → Slot → Type 0
      Ready i x = is_gone x ≡ false → Shows K Z (R K Z size) c i x

      joins : Settles K law Z (R K Z size) c (Weak ws) (Weak ws) (λ i. ⊥) (λ q. q ≡ m.root) (λ i. is_bare K (f i)) m.root Ready
      joins =
          record {
            own = refl;
            fewer = λ i b. absurd b;
            label_keeps = λ i x t y g. shows_looks K Z (R K Z size) (label_looks (K.encode (has m.root)) x) (y (sym (gone_same 0 (K.encode (has m.root)) x) ∙ g));
            sync_keeps = λ i x y g. shows_looks K Z (R K Z size) (sync_looks x) (y (sym (gone_sync x) ∙ g));
          }

      done_place : (r k : ℕ) → r < R K Z size → k < 8 → place_of r k < p
      done_place r k u v = omega arith

      synced : (i : ℕ) (x : Slot) → i < 6 → Works p i x → Before K law Z (R K Z size) joins i (synced_one x)
      unfolding synced_one
      synced i gone l (no_more w t, z) = (work_fit p i gone (no_more w t, z), (λ a g. absurd (gone_there g)), (λ a. lacks w), λ g. absurd (gone_there g))
      synced i x l (source t b k a u, z) = (
        work_fit p i (synced_one x) (source t b (holds_sync k) (has_moves K Z (R K Z size) (sync_moves x) a) (shows_looks K Z (R K Z size) (sync_looks x) u), zeros_moves K Z (R K Z size) (sync_moves x) z),
        (λ y. absurd (true≢false (sym y ∙ b))),
        (λ y. final (sight 0 (synced_one x)) (holds_sight (holds_sync k))),
        λ g. shows_looks K Z (R K Z size) (sync_looks x) u,
      )
        where
          final : (y : Sight) → IsRecord K Z (R K Z size) m.root y → May K (Weak ws i) ⊥ (λ q. (q ≡ m.root) × Has K Z (R K Z size) c i (synced_one x)) y
          final y (is_record e) = shows m.root e (refl, has_moves K Z (R K Z size) (sync_moves x) a)
      synced i x l (filling w t b k q a, z) = (
        stand_fit K Z (R K Z size) {p = p} {n = 0} (lacks_it w (holds_sync k) (λ y r j e u v st st'. sight_sync (sec r j) x ∙ a r j e u v st st') (λ y. absurd (true≢false (sym (ap (λ b. is_mark (K.decode b)) (shown_sync 0 x) ∙ q) ∙ y)))) (zeros_moves K Z (R K Z size) (sync_moves x) z),
        (λ y g r j e u v st. holds_synced x (a r j e u v (done_place r j u v) (subst⁻¹ (λ y. Stored K Z (R K Z size) y e) st as_kept))),
        (λ y. absurd (true≢false (sym b ∙ y))),
        λ g r j e u v st. sight_sync (sec r j) x ∙ a r j e u v (done_place r j u v) (subst⁻¹ (λ y. Stored K Z (R K Z size) y e) st as_fresh),
      )

      -- only drives that are gone are weak then
      whole_one : (e : Drives) (i : ℕ) (x : Slot) → e i ≡ x → After K law Z (R K Z size) joins i x → Stand K Z (R K Z size) c (Weak (still_gone e ws) i) m.root p n i x
      whole_one e i gone y (k, lacks w, z, u) = no_drive (weak_gone i e ws y w)
      whole_one e i (there x) y (k, h, z, u) = stand_final K Z size (there x) k (seen h) u (λ g t b. absurd b)
        where
          seen : {b : List ℕ} → May K (Weak ws i) ⊥ (λ q. (q ≡ m.root) × Has K Z (R K Z size) c i (there x)) (sees b) → May K (Weak (still_gone e ws) i) ⊥ (λ q. (q ≡ m.root) × Has K Z (R K Z size) c i (there x)) (sees b)
          seen (shows q e p) = shows q e p
          seen (bare e x) = absurd x

      finishes : n * stride ≤ p → {e : Drives} → Each (Works p) e → Does (Lets s ws) (Comes s n ws) (rejoin K f (placed p m)) e
      finishes count g =
          does_each {F = Works p} {G = Before K law Z (R K Z size) joins} {J = Fits} acts_sync stop (work_fit p) (λ i x b. b.0) synced
          (λ e h. does_settle K law Z (R K Z size) joins (record { whole = true; mem = placed p m }) stop (λ e h. (
            λ z. absurd (true≢false z),
            record { sized = o.sized; pays = o.pays; none_kept = o.none_kept; counts = count; drives = λ i l. (whole_one e i (e i) refl (h i l), (h i l).2) },
          )) h)
          g

    ends : (p : ℕ) → n * stride ≤ p → (p < 8 * R K Z size → suc n * stride ≤ p) → {e : Drives} → Each (Works p) e → Does (Lets s ws) (Comes s n ws) (finish K f (placed p m)) e
    unfolding finish
    ends p count more {e} g = go (ltb p (places m.size)) refl
      where
        go : (v : Bool) → ltb p (places m.size) ≡ v →
            Does (Lets s ws) (Comes s n ws) (cond v (says K false (placed p m)) (rejoin K f (placed p m))) e
        go true t =
            let l : p < 8 * R K Z size = subst (λ z. p < places z) o.sized (ltb→lt p (places m.size) (subst T (sym t) tt)) in
            does_answer (stop e (λ i y. work_fit p i (e i) (g i y))) (
              λ z. soon_is (suc n) size (omega (arith, more l)),
              record { sized = o.sized; pays = o.pays; none_kept = o.none_kept; counts = more l; drives = λ i y. (work_stand (suc n) (g i y).0, (g i y).1) },
            )
        go false t = finishes p (subst (λ z. places z ≤ p) o.sized (nltb→le p (places m.size) (subst (λ b. T (not b)) (sym t) tt))) count g

    -- a stretch from the place a on
    goes_on : (a : ℕ) → n * stride ≤ a → {e : Drives} → Each (Works a) e → Does (Lets s ws) (Comes s n ws) (stretch K Z f (placed a m)) e
    unfolding stretch
    goes_on a count g =
        let z : places m.size ≡ 8 * R K Z size = ap places o.sized in
        rebuilds (ahead (placed a m)) a (omega arith) g (λ y h. ends (a + ahead (placed a m)) (omega arith) (λ l. omega arith) h)

    -- THE BEGINNING OF A STRETCH

    label_long : (i : ℕ) → i < 6 → is_gone (d i) ≡ false → length (f i) ≡ 512
    label_long i l g = ap length (read i l) ∙ (shown_whole (d i) 0 g (w i)).0

    abbrev Stood : ℕ → Slot → Type 0
    Stood i x = Stands K Z size s n ws m i x × (f i ≡ shown x 0) × (is_gone x ≡ false → length (f i) ≡ 512)

    stood : Each Stood d
    stood i l = (o.drives i l, read i l, label_long i l)

    -- where all that are bare are marked, rebuilding goes on
    marked_work : (i : ℕ) (x : Slot) → is_new K (f i) ≡ false → Stood i x → Works m.place i x
    marked_work i x new ((h, z), e, long) = (go h e long, z)
      where
        go : {y : Slot} → Stand K Z (R K Z size) c (Weak ws i) m.root m.place n i y → f i ≡ shown y 0 → (is_gone y ≡ false → length (f i) ≡ 512) → Work m.place i y
        go (no_drive w) e long = no_more w (ap (trusted K) e ∙ ap is_there (gone_shown K law Z cod size))
        go {y} (trusts k a t) e long = let q = ap (record_in K) e ∙ record_shown K law Z cod size y (holds_sight k) in source (ap is_there q) (trusts_bare (f i) q) k a t
        go {y} (lacks_it w k a t) e long =
            let q = ap (record_in K) e ∙ bare_shown K law Z cod size y (holds_sight k) in
            let b = lacks_bare (f i) q (long (bare_there K law Z cod size y (holds_sight k))) in
            let u = ap (λ b. is_mark (K.decode b)) (sym e) ∙ bare_new (f i) b new in
            filling w (ap is_there q) b k u (a u)

    -- where one is new, all that are bare are marked, and begun anew
    mark_one : (i : ℕ) (x : Slot) → i < 6 → Stood i x → Works 0 i (written_if (λ j. is_bare K (f j)) 0 (λ j. K.encode rebuilding) i x)
    mark_one i x l ((h, z), e, long) = go h e long z
      where
        go : {y : Slot} → Stand K Z (R K Z size) c (Weak ws i) m.root m.place n i y → f i ≡ shown y 0 → (is_gone y ≡ false → length (f i) ≡ 512) → Zeros K Z (R K Z size) c y →
            Works 0 i (cond (is_bare K (f i)) (written_to 0 (K.encode rebuilding) y) y)
        go (no_drive w) e long z = subst⁻¹ (λ v. Works 0 i (cond v (written_to 0 (K.encode rebuilding) gone) gone)) (ap (is_bare K) e ∙ gone_bare) (no_more w (ap (trusted K) e ∙ ap is_there (gone_shown K law Z cod size)), z)
        go {y} (trusts k a t) e long z =
            let q = ap (record_in K) e ∙ record_shown K law Z cod size y (holds_sight k) in
            subst⁻¹ (λ v. Works 0 i (cond v (written_to 0 (K.encode rebuilding) y) y)) (trusts_bare (f i) q) (source (ap is_there q) (trusts_bare (f i) q) k a t, z)
        go {y} (lacks_it w k a t) e long z =
            let q = ap (record_in K) e ∙ bare_shown K law Z cod size y (holds_sight k) in
            let g = bare_there K law Z cod size y (holds_sight k) in
            let b = lacks_bare (f i) q (long g) in
            subst⁻¹ (λ v. Works 0 i (cond v (written_to 0 (K.encode rebuilding) y) y)) b (
              filling w (ap is_there q) b (holds_write (K.encode rebuilding) (no_record mark_bare) k)
                  (ap (λ b. is_mark (K.decode b)) (shown_is 0 (written_to 0 (K.encode rebuilding) y) (written_there 0 (K.encode rebuilding) y g)) ∙ mark_marks)
                  (λ r j b u v st. absurd (omega arith)),
              zeros_moves K Z (R K Z size) (label_moves (K.encode rebuilding) y) z,
            )

    -- a new drive: no stretch was made since it came
    new_counts : (i : ℕ) → i < 6 → is_new K (f i) ≡ true → n ≡ 0
    new_counts i l new = go (o.drives i l).0 (read i l)
      where
        go : {y : Slot} → Stand K Z (R K Z size) c (Weak ws i) m.root m.place n i y → f i ≡ shown y 0 → n ≡ 0
        go (no_drive w) e = absurd (true≢false (sym (and_left (is_bare K (f i)) _ new) ∙ ap (is_bare K) e ∙ gone_bare))
        go {y} (trusts k a t) e = absurd (true≢false (sym (and_left (is_bare K (f i)) _ new) ∙ trusts_bare (f i) (ap (record_in K) e ∙ record_shown K law Z cod size y (holds_sight k))))
        go (lacks_it w k a t) e = t (ap (λ b. is_mark (K.decode b)) (sym e) ∙ new_mark (f i) new)

    -- nothing to rebuild: only drives that are gone are weak
    nothing_bare : ((i : ℕ) → i < 6 → is_bare K (f i) ≡ false) → On K Z size s n (still_gone d ws) m d
    nothing_bare none' = record { sized = o.sized; pays = o.pays; none_kept = o.none_kept; counts = o.counts; drives = λ i l. (go i l (d i) refl (stood i l).0.0 (read i l) (label_long i l), (o.drives i l).1) }
      where
        go : (i : ℕ) → i < 6 → (x : Slot) → d i ≡ x → Stand K Z (R K Z size) c (Weak ws i) m.root m.place n i x → f i ≡ shown x 0 → (is_gone x ≡ false → length (f i) ≡ 512) →
            Stand K Z (R K Z size) c (Weak (still_gone d ws) i) m.root m.place n i x
        go i l x e (no_drive w) q long = no_drive (weak_gone i d ws e w)
        go i l x e (trusts k a t) q long = trusts k a t
        go i l x e (lacks_it w k a t) q long =
            absurd (true≢false (sym (lacks_bare (f i) (ap (record_in K) q ∙ bare_shown K law Z cod size x (holds_sight k)) (long (bare_there K law Z cod size x (holds_sight k)))) ∙ none' i l))

    mends_by : Does (Lets s ws) (Comes s n ws) (mending K Z m f) d
    unfolding mending
    mends_by = go (is_any_bare K f) refl (is_any_new K f) refl
      where
        stood_fit : (i : ℕ) (x : Slot) → Stood i x → Fits i x
        stood_fit i x ((h, z), e, l) = stand_fit K Z (R K Z size) h z

        go : (v : Bool) → is_any_bare K f ≡ v → (u : Bool) → is_any_new K f ≡ u →
            Does (Lets s ws) (Comes s n ws) (cond v (cond u (mark_all K Z f m) (stretch K Z f m)) (says K true m)) d
        go true b true e =
            let (i, l, new) = any_true (λ i. is_new K (f i)) 6 e in
            let z = new_counts i l new in
            does_each {F = Stood} {G = Works 0} {J = Fits} (acts_write (λ i. is_bare K (f i)) 0 (λ i. K.encode rebuilding)) stop stood_fit (work_fit 0) mark_one (λ e g. goes_on 0 (omega arith) g) stood
        go true b false e = goes_on m.place o.counts (λ i l. marked_work i (d i) (any_false (λ i. is_new K (f i)) 6 e i l) (stood i l))
        go false b u e = does_answer (stop d (λ i l. stood_fit i (d i) (stood i l))) (λ z. absurd (true≢false z), nothing_bare (any_false (λ i. is_bare K (f i)) 6 b))

  pub mends : {s : St K Z size} {n : ℕ} {ws : List ℕ} {m : Mem K.V} {d : Drives} → Few ws → Whole d → On K Z size s n ws m d → Does (Lets s ws) (Comes s n ws) ((stripes K Z).mends m) d
  mends few w o = does_read_all 0 (λ f read. mends_by few w o f read)
