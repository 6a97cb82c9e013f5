-- Calls: reading a row, writing one, the commit.
-- Assumes nothing.
use mathlib.Core.Path.{◌≡◌, refl, sym, ◌∙◌, ap, subst, subst⁻¹}
use mathlib.Core.Logic.{◌⊎◌, inl, inr, ⊎_elim}
use mathlib.Core.Bool.{Bool, true, false, cond, not, true≢false}
use mathlib.Core.Option.{none}
use mathlib.Core.List.{List}
use Prim.Native.Nat.{ℕ, ◌+◌, ◌<◌, ◌≤◌}
use native.Mathlib.Omega.{arith}
use lib.Dec.{T, ltb, ltb→lt, nltb→le}
use Rattle.drives.specs.Drives.{Slot, gone, there, Drives, shown, written_to, synced_one, put}
use Rattle.drives.specs.Machines.{is_gone}
use Rattle.crash.specs.Refinement.{Does, Cuts, Few}
use Rattle.crash.proofs.Updates.{same?, put_at_lem, put_off}
use Rattle.crash.proofs.Sectors.{sees, sight, shown_sight, holds_sight, holds_sync, holds_synced, sight_write, sight_sync, shown_sync}
use Rattle.crash.proofs.Weak.{Weak}
use Rattle.crash.proofs.Does.{does_answer, Each, does_each, acts_sync, Read, does_read_all}
use Rattle.root.specs.Root.{Record, empty, committed, has, Codec, Lawful, record_in, trusted, payload}
use Rattle.root.proofs.Root.{never, written}
use Rattle.rows.specs.Rows.{Cell, unknown, fresh, kept, State, Call, ReadRow, WriteRow, SetRoot, GetRoot, Reply, RowIs, Done, NoRow, PayloadIs, kept_cell, fallen_cell, with_cell, commit, fallen, Answers, CutIn, rows_in}
use Rattle.rows.specs.Rows as rows
use Rattle.stripes.specs.Coding.{Coding, LawfulCoding}
use Rattle.stripes.specs.Stripes.{read_row, write_row, commit_root, no_row, sector_at, place_of, is_mark, taken, picked, Mem, Answered, settle, does, judge}
use Rattle.stripes.proofs.Standing.{sec, shown_is, sync_moves, sync_looks, Zeros, Stored, as_fresh, as_kept, Caught, Fit, Stand, no_drive, trusts, lacks_it, zeros_moves, caught_looks, fit_more, stand_fit}
use Rattle.stripes.proofs.Settling.{Settles, Before, After, does_settle}
use Rattle.stripes.proofs.Invariant.{may_by, untrusted_bare, St, R, Rows, Possible, Off, On, Stands, under_fallen, under_commit, cuts_settled, undone, stands_cuts, stand_final}
use Rattle.stripes.proofs.Reading.{does_read_row, reads_content, Source, stand_source, row_shards, record_shown, record_there, bare_there}
use Rattle.stripes.proofs.Writing.{stand_less, zeros_less, without, without_less, Wrote, does_write_row}

kept_never : {B : Type 0} (c : Cell B) → kept_cell c ≡ rows.never → c ≡ rows.never
kept_never rows.never e = e
kept_never rows.unknown e = e
kept_never (fresh b) e = let z : ◌≡◌ {A = ℕ} 0 1 = cc in absurd (omega arith)
kept_never (kept b) e = let z : ◌≡◌ {A = ℕ} 0 1 = cc in absurd (omega arith)

kept_plain : {B : Type 0} (c : Cell B) {b : B} → kept_cell c ≡ fresh b → ⊥
kept_plain rows.never e = let z : ◌≡◌ {A = ℕ} 0 1 = cc in omega arith
kept_plain rows.unknown e = let z : ◌≡◌ {A = ℕ} 0 1 = cc in omega arith
kept_plain (fresh a) e = let z : ◌≡◌ {A = ℕ} 0 1 = cc in omega arith
kept_plain (kept a) e = let z : ◌≡◌ {A = ℕ} 0 1 = cc in omega arith

-- what a commit keeps was fresh or kept
kept_was : {B : Type 0} (c : Cell B) {b : B} → kept_cell c ≡ kept b → (c ≡ fresh b) ⊎ (c ≡ kept b)
kept_was rows.never e = let z : ◌≡◌ {A = ℕ} 0 1 = cc in absurd (omega arith)
kept_was rows.unknown e = let z : ◌≡◌ {A = ℕ} 0 1 = cc in absurd (omega arith)
kept_was (fresh a) e = inl (ap fresh cc)
kept_was (kept a) e = inr e

pub gone_sync : (x : Slot) → is_gone (synced_one x) ≡ is_gone x
unfolding synced_one is_gone
gone_sync gone = refl
gone_sync (there d) = refl

pub gone_there : is_gone gone ≡ false → ⊥
unfolding is_gone
gone_there e = true≢false e

module _ (K : Codec) (law : Lawful K) (Z : Coding) (cod : LawfulCoding Z) (size : ℕ) where
  -- what a call comes to
  abbrev pub Comes : Call Z.Row K.V → St K Z size → ℕ → List ℕ → Answered K Z → Drives → Type 0
  Comes c s n ws x f = (t : St K Z size) × (judge K Z size).Answers c s x.reply t × On K Z size t n ws x.mem f

  abbrev pub Lets : Call Z.Row K.V → St K Z size → List ℕ → Drives → Type 0
  Lets c s ws = Cuts (Off K Z size ((judge K Z size).Cut c s) ws)

  module _ {s : St K Z size} {n : ℕ} {ws : List ℕ} {m : Mem K.V} {d : Drives} (few : Few ws) (o : On K Z size s n ws m d) where
    sources : (f : ℕ → List ℕ) → Read 0 d f → Each (Source K law Z cod size s.cells ws f) d
    sources f read i l = let (h, z) = o.drives i l in stand_source K law Z cod size f (read i l) h z

    inside : (r : ℕ) → ltb r (rows_in m.size) ≡ true → r < R K Z size
    inside r e = subst (λ z. r < rows_in z) o.sized (ltb→lt r (rows_in m.size) (subst T (sym e) tt))

    outside : (r : ℕ) → ltb r (rows_in m.size) ≡ false → R K Z size ≤ r
    outside r e = subst (λ z. rows_in z ≤ r) o.sized (nltb→le r (rows_in m.size) (subst (λ b. T (not b)) (sym e) tt))

    -- READING

    reads_row : (r : ℕ) → r < R K Z size →
        Does (Lets (ReadRow r) s ws) (Comes (ReadRow r) s n ws)
        (read_row K Z r m) d
    reads_row r l = does_read_all 0 (λ f read. does_read_row (taken K f) (sector_at (place_of r 0)) (λ g got.
        does_answer (stands_cuts K Z size o CutIn.undone d o.drives) (s, Answers.reads l (is f read g got), o)))
      where
        is : (f : ℕ → List ℕ) → Read 0 d f → (g : ℕ → ℕ → List ℕ) → ((k i : ℕ) → k < 8 → i < 6 → taken K f i ≡ true → g k i ≡ shown (d i) (sector_at (place_of r 0) + k)) →
            rows.Reads Z.zero_row (s.cells r) (Z.join (λ k. picked (taken K f) (g k)))
        is f read g got =
            reads_content K law Z cod size (s.cells r) _ (λ b con. cod.joins b _ (λ k a.
            row_shards K law Z cod size l a few (sources f read) con (g k) (λ i h t. got k i a h t ∙ ap (shown (d i)) (let e : sector_at (place_of r 0) + k ≡ sec r k = omega arith in e))))

    -- WRITING

    -- the row as it is once all of it was written
    wrote_row : (r : ℕ) (b : Z.Row) (e : Drives) →
        Each (λ i x. Stand K Z (R K Z size) (without K Z (R K Z size) r s.cells) (Weak ws i) m.root m.place n i x × Zeros K Z (R K Z size) (without K Z (R K Z size) r s.cells) x × Wrote K Z (R K Z size) r b 0 i x) e →
        On K Z size (with_cell r (fresh b) s) n ws m e
    wrote_row r b e h =
        record {
          sized = o.sized;
          pays = o.pays;
          none_kept = λ z q a y. o.none_kept z q a (other q y (λ p. let z : ◌≡◌ {A = ℕ} 0 1 = cc in omega arith)).1;
          counts = o.counts;
          drives = λ i l. let (k, z, w) = h i l in (stands k w, λ q j u v y. z q j u v (known q y (λ p. let z : ◌≡◌ {A = ℕ} 0 1 = cc in omega arith)));
        }
      where
        c : Rows K Z size
        c = put r (fresh b) s.cells

        other : (q : ℕ) {y : Cell Z.Row} → c q ≡ y → (y ≡ fresh b → ⊥) → (q ≡ r → ⊥) × (s.cells q ≡ y)
        other q {y} e p = ⊎_elim (λ z. absurd (p (sym e ∙ ap c z ∙ put_at_lem r (fresh b) s.cells))) (λ z. (z, sym (put_off r q (fresh b) s.cells z) ∙ e)) (same? q r)

        known : (q : ℕ) {y : Cell Z.Row} → c q ≡ y → (y ≡ fresh b → ⊥) → without K Z (R K Z size) r s.cells q ≡ y
        known q e p = let (z, k) = other q e p in put_off r q unknown s.cells z ∙ k

        -- fresh rows are this one, or were fresh
        at_fresh : {X : Type 0} (q : ℕ) {a : Z.Row} → c q ≡ fresh a → (q ≡ r → b ≡ a → X) → (without K Z (R K Z size) r s.cells q ≡ fresh a → X) → X
        at_fresh q {a} e mine others =
            ⊎_elim (λ z. mine z (let y : fresh b ≡ fresh a = sym (put_at_lem r (fresh b) s.cells) ∙ ap c (sym z) ∙ e in cc)) (λ z. others (put_off r q unknown s.cells z ∙ sym (put_off r q (fresh b) s.cells z) ∙ e)) (same? q r)

        shown_now : (x : Slot) {i q k : ℕ} {a : Z.Row} → Wrote K Z (R K Z size) r b 0 i x → is_gone x ≡ false → k < 8 → q ≡ r → b ≡ a → sight (sec q k) x ≡ sees (Z.shard a k i)
        shown_now x {i} {q} {k} {a} w g v z y = subst⁻¹ (λ q. sight (sec q k) x ≡ sees (Z.shard a k i)) z (subst (λ a. sight (sec r k) x ≡ sees (Z.shard a k i)) y (w k (omega arith) v g))

        caught_now : (x : Slot) {p i : ℕ} → Wrote K Z (R K Z size) r b 0 i x → is_gone x ≡ false → Caught K Z (R K Z size) (without K Z (R K Z size) r s.cells) p i x → Caught K Z (R K Z size) c p i x
        caught_now x {p} {i} w g h q k a u v lt st = go (c q) a refl st
          where
            go : (y : Cell Z.Row) (a : Z.Row) → c q ≡ y → Stored K Z (R K Z size) y a → sight (sec q k) x ≡ sees (Z.shard a k i)
            go y a e as_fresh = at_fresh q e (shown_now x w g v) (λ z. h q k a u v lt (subst⁻¹ (λ t. Stored K Z (R K Z size) t a) z as_fresh))
            go y a e as_kept = h q k a u v lt (subst⁻¹ (λ t. Stored K Z (R K Z size) t a) (known q e (λ p. let z : ◌≡◌ {A = ℕ} 0 1 = cc in omega arith)) as_kept)

        stands : {i : ℕ} {x : Slot} → Stand K Z (R K Z size) (without K Z (R K Z size) r s.cells) (Weak ws i) m.root m.place n i x → Wrote K Z (R K Z size) r b 0 i x →
            Stand K Z (R K Z size) c (Weak ws i) m.root m.place n i x
        stands (no_drive w) y = no_drive w
        stands {i} {x} (trusts h a t) w =
            trusts h (λ q k e u v y. a q k e u v (known q y (λ p. let z : ◌≡◌ {A = ℕ} 0 1 = cc in omega arith)))
            (λ q k e u v y. at_fresh q y (shown_now x w (record_there K law Z cod size x (holds_sight h)) v) (t q k e u v))
        stands {i} {x} (lacks_it w h a t) y = lacks_it w h (λ z. caught_now x y (bare_there K law Z cod size x (holds_sight h)) (a z)) t

    -- while a row is written it is unknown
    on_without : (r : ℕ) → On K Z size (with_cell r unknown s) n ws m d
    on_without r =
        let w = without_less K Z (R K Z size) r s.cells in
        record {
          sized = o.sized;
          pays = o.pays;
          none_kept = λ z q b e. o.none_kept z q b (w.keeps q b e);
          counts = o.counts;
          drives = λ i l. let (h, z) = o.drives i l in (stand_less K Z (R K Z size) w h, zeros_less K Z (R K Z size) w z);
        }

    writes_row : (r : ℕ) (b : Z.Row) → r < R K Z size →
        Does (Lets (WriteRow r b) s ws) (Comes (WriteRow r b) s n ws) (write_row K Z r b m) d
    writes_row r b l =
        does_write_row K Z (R K Z size) r (without K Z (R K Z size) r s.cells) (put_at_lem r unknown s.cells) (Weak ws) m.root m.place n b stop
        (λ e h. does_answer (stop e (λ i l. let (k, z, w) = h i l in stand_fit K Z (R K Z size) k z)) (with_cell r (fresh b) s, Answers.writes l, wrote_row r b e h))
        (on_without r).drives
      where
        stop : (e : Drives) → Each (λ i x. Fit K Z (R K Z size) (without K Z (R K Z size) r s.cells) (Weak ws i) (Weak ws i) (λ q. q ≡ m.root) i x) e → Lets (WriteRow r b) s ws e
        stop = cuts_settled K Z size (without K Z (R K Z size) r s.cells) (undone K Z size (on_without r) (CutIn.write_cut l) (under_fallen K Z size (without K Z (R K Z size) r s.cells)))

    -- COMMITTING

    module _ (v : K.V) where
      abbrev after : Rows K Z size
      after r = kept_cell (s.cells r)

      -- once a drive is synced, all that it showed it has
      synced : {i : ℕ} {x : Slot} → Stand K Z (R K Z size) s.cells (Weak ws i) m.root m.place n i x → Stand K Z (R K Z size) after (Weak ws i) m.root m.place n i (synced_one x)
      unfolding synced_one
      synced (no_drive w) = no_drive w
      synced {i} {x} (trusts h a t) =
          trusts (holds_sync h)
          (λ r k b u w e. ⊎_elim (λ z. holds_synced x (t r k b u w z)) (λ z. holds_sync (a r k b u w z)) (kept_was (s.cells r) e))
          (λ r k b u w e. absurd (kept_plain (s.cells r) e))
      synced {i} {x} (lacks_it w h a t) =
          let e = shown_sync 0 x in
          lacks_it w (holds_sync h)
          (λ z r k b u y l g. sight_sync (sec r k) x ∙ a (sym (ap (λ s. is_mark (K.decode s)) (shown_sync 0 x)) ∙ z) r k b u y l (stored_was r (after r) b refl g))
          (λ z. t (sym (ap (λ s. is_mark (K.decode s)) e) ∙ z))
        where
          stored_was : (r : ℕ) (y : Cell Z.Row) (b : Z.Row) → after r ≡ y → Stored K Z (R K Z size) y b → Stored K Z (R K Z size) (s.cells r) b
          stored_was r y b e as_fresh = absurd (kept_plain (s.cells r) e)
          stored_was r y b e as_kept = ⊎_elim (λ z. subst⁻¹ (λ y. Stored K Z (R K Z size) y b) z as_fresh) (λ z. subst⁻¹ (λ y. Stored K Z (R K Z size) y b) z as_kept) (kept_was (s.cells r) e)

      abbrev Synced : ℕ → Slot → Type 0
      Synced i x = Stand K Z (R K Z size) after (Weak ws i) m.root m.place n i x × Zeros K Z (R K Z size) after x

      synced_fit : (i : ℕ) (x : Slot) → Synced i x → Fit K Z (R K Z size) s.cells (Weak ws i) (Weak ws i) (λ q. q ≡ m.root) i x
      synced_fit i x (h, z) = fit_more K Z (R K Z size) (λ w. w) (λ q e. e) (λ k r j b l a e. k r j b l a (ap kept_cell e)) (λ k r j l a e. k r j l a (ap kept_cell e)) (stand_fit K Z (R K Z size) h z)

      -- the record of the commit is settled
      module _ {e : Drives} (h : Each Synced e) (f : ℕ → List ℕ) (read : Read 0 e f) where
        abbrev Either : Record K.V → Type 0
        Either q = (q ≡ m.root) ⊎ (q ≡ committed v)

        -- a drive without a record is as far as it was
        abbrev Lagging : ℕ → Slot → Type 0
        Lagging i x = is_gone x ≡ false → record_in K (shown x 0) ≡ none → (is_mark (K.decode (shown x 0)) ≡ true → Caught K Z (R K Z size) after m.place i x) × (is_mark (K.decode (shown x 0)) ≡ false → n ≡ 0)

        commits : Settles K law Z (R K Z size) after (Weak ws) (Weak ws) (Weak ws) Either (λ i. trusted K (f i)) (committed v) Lagging
        unfolding written_to
        commits = record { own = inr refl; fewer = λ i w. w; label_keeps = labelled; sync_keeps = lagging_sync }
          where
            labelled : (i : ℕ) (x : Slot) → trusted K (f i) ≡ true → Lagging i x → Lagging i (written_to 0 (K.encode (has (committed v))) x)
            labelled i gone t y = y
            labelled i (there d) t y = λ g z. never z (ap (record_in K) (shown_is 0 (written_to 0 (K.encode (has (committed v))) (there d)) (sight_write 0 (K.encode (has (committed v))) d)) ∙ written K law (committed v))

            lagging_sync : (i : ℕ) (x : Slot) → Lagging i x → Lagging i (synced_one x)
            lagging_sync i x y g z =
                let e = shown_sync 0 x in
                let (a, b) = y (sym (gone_sync x) ∙ g) (ap (record_in K) (sym e) ∙ z) in (
                  λ t. caught_looks K Z (R K Z size) (sync_looks x) (a (sym (ap (λ s. is_mark (K.decode s)) (shown_sync 0 x)) ∙ t)),
                  λ t. b (sym (ap (λ s. is_mark (K.decode s)) (shown_sync 0 x)) ∙ t),
                )

        lagging : {i : ℕ} {x : Slot} → Stand K Z (R K Z size) after (Weak ws i) m.root m.place n i x → Lagging i x
        lagging (no_drive w) g z = absurd (gone_there g)
        lagging {x = x} (trusts k a t) g z = never z (record_shown K law Z cod size x (holds_sight k))
        lagging (lacks_it w k a t) g z = (a, t)

        before : (i : ℕ) (l : i < 6) → Before K law Z (R K Z size) commits i (e i)
        before i l =
            let (k, z) = h i l in
            let fits = fit_more K Z (R K Z size) (λ w. w) (λ q e. inl e) (λ a. a) (λ a. a) (stand_fit K Z (R K Z size) k z) in
            let src = stand_source K law Z cod size f (read i l) k z in (
              fits,
              λ t g. src.has_kept t,
              λ t. may_by (sight 0 (e i)) (λ q w. w) (λ q y p. never (ap (record_in K) (sym (shown_sight 0 (e i)) ∙ sym (read i l)) ∙ untrusted_bare _ t) y) (holds_sight fits.0),
              lagging k,
            )

        possible : (q : Record K.V) → Either q → Possible K Z size ((judge K Z size).Cut (SetRoot v) s) after q
        possible q (inl p) = undone K Z size o CutIn.undone (under_commit K Z size s.cells) q p
        possible q (inr p) = (fallen (commit v s), CutIn.set_done, ap (payload K) (sym p), under_fallen K Z size after, λ z. let y : committed v ≡ empty = sym p ∙ z in let z : ◌≡◌ {A = ℕ} 0 1 = cc in absurd (omega arith))

        abbrev now : Mem K.V
        now = record { size = m.size; root = committed v; place = m.place }

        done : (g : Drives) → Each (After K law Z (R K Z size) commits) g → Comes (SetRoot v) s n ws (record { reply = Done; mem = now }) g
        done g k = (
          commit v s,
          Answers.sets,
          record {
            sized = o.sized;
            pays = refl;
            none_kept = λ z. let z : ◌≡◌ {A = ℕ} 0 1 = cc in absurd (omega arith);
            counts = o.counts;
            drives = λ i l. let (a, b, z, y) = k i l in (stand_final K Z size (g i) a b (λ t r j b u w e. absurd (kept_plain (s.cells r) e)) (λ t e w. let (p, q) = y t e in (w, p, q)), z);
          },
        )

        settles : Does (Lets (SetRoot v) s ws) (Comes (SetRoot v) s n ws) (settle K (λ i. trusted K (f i)) (committed v) (record { reply = Done; mem = now })) e
        settles = does_settle K law Z (R K Z size) commits (record { reply = Done; mem = now }) (cuts_settled K Z size after possible) done before

      sets_root : Does (Lets (SetRoot v) s ws) (Comes (SetRoot v) s n ws) (commit_root K Z v m) d
      sets_root =
          does_each {F = λ i x. Stands K Z size s n ws m i x} {G = Synced} {J = λ i x. Fit K Z (R K Z size) s.cells (Weak ws i) (Weak ws i) (λ q. q ≡ m.root) i x} acts_sync
          (cuts_settled K Z size s.cells (undone K Z size o CutIn.undone (under_fallen K Z size s.cells)))
          (λ i x h. stand_fit K Z (R K Z size) h.0 h.1) synced_fit
          (λ i x l h. (synced h.0, λ r k u w e. zeros_moves K Z (R K Z size) (sync_moves x) h.1 r k u w (kept_never (s.cells r) e)))
          (λ e h. does_read_all 0 (λ f read. settles h f read)) o.drives

  -- ALL CALLS

  pub calls : (c : Call Z.Row K.V) {s : St K Z size} {n : ℕ} {ws : List ℕ} {m : Mem K.V} {d : Drives} → Few ws → On K Z size s n ws m d → Does (Lets c s ws) (Comes c s n ws) (does K Z c m) d
  unfolding does
  calls (ReadRow r) {s} {n} {ws} {m} {d} few o = go (ltb r (rows_in m.size)) refl
    where
      go : (v : Bool) → ltb r (rows_in m.size) ≡ v →
          Does (Lets (ReadRow r) s ws) (Comes (ReadRow r) s n ws)
          (cond v (read_row K Z r m) (no_row K Z m)) d
      go true e = reads_row few o r (inside few o r e)
      go false e = does_answer (stands_cuts K Z size o CutIn.undone d o.drives) (s, Answers.no_read (outside few o r e), o)
  calls (WriteRow r b) {s} {n} {ws} {m} {d} few o = go (ltb r (rows_in m.size)) refl
    where
      go : (v : Bool) → ltb r (rows_in m.size) ≡ v →
          Does (Lets (WriteRow r b) s ws) (Comes (WriteRow r b) s n ws)
          (cond v (write_row K Z r b m) (no_row K Z m)) d
      go true e = writes_row few o r b (inside few o r e)
      go false e = does_answer (stands_cuts K Z size o CutIn.undone d o.drives) (s, Answers.no_write (outside few o r e), o)
  calls (SetRoot v) few o = sets_root few o v
  calls GetRoot {s} {n} {ws} {m} {d} few o = does_answer (stands_cuts K Z size o CutIn.undone d o.drives) (s, subst (λ p. Answers Z.zero_row (R K Z size) GetRoot s (PayloadIs p) s) o.pays Answers.gets, o)
