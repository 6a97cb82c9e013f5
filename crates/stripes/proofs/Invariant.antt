-- The invariant of stripes, while the power is off and while it is on, and what a cut leaves of it.
-- Assumes nothing.
use mathlib.Core.Path.{◌≡◌, refl, sym, ◌∙◌, ap, subst, fun_ext}
use mathlib.Core.Bool.{true, false, true≢false}
use mathlib.Core.Option.{Option, none, some}
use mathlib.Core.List.{List}
use Prim.Native.Nat.{ℕ, ◌*◌, ◌≤◌}
use native.Mathlib.Omega.{arith}
use Rattle.drives.specs.Drives.{Slot, gone, there, Drives, shown, latest}
use Rattle.drives.specs.Machines.{is_gone}
use Rattle.crash.specs.Refinement.{Cuts}
use Rattle.crash.proofs.Sectors.{Sight, sees, sight, text, shown_sight, Calm, calm_holds}
use Rattle.crash.proofs.Weak.{Weak}
use Rattle.crash.proofs.Does.{Each}
use Rattle.root.specs.Root.{Record, empty, Codec, record_in, is_there, payload}
use Rattle.root.proofs.Root.{May, lacks, shows, bare}
use Rattle.rows.specs.Rows.{Cell, fresh, kept, State, kept_cell, fallen_cell, fallen, rows_in}
use Rattle.rows.specs.Rows as rows
use Rattle.stripes.specs.Coding.{Coding}
use Rattle.stripes.specs.Stripes.{Mem, stride, is_mark}
use Rattle.stripes.proofs.Standing.{Cells, Has, Shows, Zeros, Caught, Under, NoneKept, IsRecord, is_record, NoRecord, no_record, Fit, Sit, Stand, no_drive, trusts, lacks_it, fit_cut, fit_more, stand_fit}

-- CELLS AFTER A CUT

fallen_kept : {B : Type 0} (c : Cell B) {b : B} → fallen_cell c ≡ kept b → c ≡ kept b
fallen_kept rows.never e = e
fallen_kept rows.unknown e = e
fallen_kept (fresh a) e = let z : ◌≡◌ {A = ℕ} 0 1 = cc in absurd (omega arith)
fallen_kept (kept a) e = e

fallen_never : {B : Type 0} (c : Cell B) → fallen_cell c ≡ rows.never → c ≡ rows.never
fallen_never rows.never e = e
fallen_never rows.unknown e = e
fallen_never (fresh a) e = let z : ◌≡◌ {A = ℕ} 0 1 = cc in absurd (omega arith)
fallen_never (kept a) e = e

fallen_plain : {B : Type 0} (c : Cell B) {b : B} → fallen_cell c ≡ fresh b → ⊥
fallen_plain rows.never e = let z : ◌≡◌ {A = ℕ} 0 1 = cc in omega arith
fallen_plain rows.unknown e = let z : ◌≡◌ {A = ℕ} 0 1 = cc in omega arith
fallen_plain (fresh a) e = let z : ◌≡◌ {A = ℕ} 0 1 = cc in omega arith
fallen_plain (kept a) e = let z : ◌≡◌ {A = ℕ} 0 1 = cc in omega arith

fallen_same : {B : Type 0} (c : Cell B) → ((b : B) → c ≡ fresh b → ⊥) → fallen_cell c ≡ c
fallen_same rows.never p = refl
fallen_same rows.unknown p = refl
fallen_same (fresh b) p = absurd (p b refl)
fallen_same (kept b) p = refl

-- a label, with what is known besides of the record that it has
pub may_by : {K : Codec} {W B B' : Type 0} {P P' : Record K.V → Type 0} (y : Sight) → (record_in K (text y) ≡ none → B → B') → ((q : Record K.V) → record_in K (text y) ≡ some q → P q → P' q) → May K W B P y → May K W B' P' y
may_by y b p (lacks w) = lacks w
may_by y b p (shows q e h) = shows q e (p q e h)
may_by y b p (bare e h) = bare e (b e h)

pub untrusted_bare : {V : Type 0} (o : Option (Record V)) → is_there o ≡ false → o ≡ none
untrusted_bare none e = refl
untrusted_bare (some q) e = absurd (true≢false e)

pub trusted_has : {V : Type 0} (o : Option (Record V)) → is_there o ≡ true → (q : Record V) × (o ≡ some q)
trusted_has none e = absurd (true≢false (sym e))
trusted_has (some q) e = (q, refl)

module _ (K : Codec) (Z : Coding) (size : ℕ) where
  abbrev pub St : Type 0
  St = State Z.Row K.V

  abbrev pub R : ℕ
  R = rows_in size

  abbrev pub Rows : Type 0
  Rows = Cells K Z R

  -- a record from which the state may still be one of P: the rows that it asks for are among c
  abbrev pub Possible : (St → Type 0) → Rows → Record K.V → Type 0
  Possible P c q = (s : St) × P s × (s.payload ≡ payload K q) × Under K Z R s.cells c × (q ≡ empty → NoneKept K Z R s.cells)

  -- Off: every drive that is not weak has a record, which is possible, and all rows. Or nothing was ever committed: then drives may be blank too, as long as no label says otherwise.
  pub data Off (P : St → Type 0) (ws : List ℕ) (d : Drives) : Type 0 where
    settled : (c : Rows) → Each (λ i x. Sit K Z R c (Weak ws i) (Weak ws i) (Possible P c) i x) d → Off P ws d
    unset : (s : St) → P s → s.payload ≡ K.first → Under K Z R s.cells s.cells → NoneKept K Z R s.cells → Each (λ i x. Sit K Z R s.cells (Weak ws i) (Unit {0}) (λ q. q ≡ empty) i x) d → Off P ws d

  -- On: every drive stands, for the state and what is in memory.
  abbrev pub Stands : St → ℕ → List ℕ → Mem K.V → ℕ → Slot → Type 0
  Stands s n ws m i x = Stand K Z R s.cells (Weak ws i) m.root m.place n i x × Zeros K Z R s.cells x

  pub record On (s : St) (n : ℕ) (ws : List ℕ) (m : Mem K.V) (d : Drives) : Type 0 where
    pub sized : m.size ≡ size
    pub pays : s.payload ≡ payload K m.root
    pub none_kept : m.root ≡ empty → NoneKept K Z R s.cells
    pub counts : n * stride ≤ m.place
    pub drives : Each (Stands s n ws m) d

  -- WHAT A CUT LEAVES

  pub under_fallen : (c : Rows) → Under K Z R (λ r. fallen_cell (c r)) c
  under_fallen c = record { keeps = λ r b. fallen_kept (c r); nevers = λ r. fallen_never (c r); plain = λ r b. fallen_plain (c r) }

  pub under_commit : (c : Rows) → Under K Z R (λ r. fallen_cell (c r)) (λ r. kept_cell (c r))
  under_commit c = record { keeps = λ r b e. ap kept_cell (fallen_kept (c r) e); nevers = λ r e. ap kept_cell (fallen_never (c r) e); plain = λ r b. fallen_plain (c r) }

  -- a state without fresh rows stays as it is
  pub fallen_is : (s : St) {c : Rows} → Under K Z R s.cells c → s ≡ fallen s
  fallen_is s u = ap (λ (c : Rows). record { cells = c; payload = s.payload }) (fun_ext (λ r. sym (fallen_same (s.cells r) (u.plain r))))

  pub cuts_settled : {P : St → Type 0} {C : Record K.V → Type 0} {ws : List ℕ} (c : Rows) → ((q : Record K.V) → C q → Possible P c q) →
      (f : Drives) → Each (λ i x. Fit K Z R c (Weak ws i) (Weak ws i) C i x) f → Cuts (Off P ws) f
  cuts_settled c up f h g a = settled c (λ i l. fit_cut K Z R (a i) (fit_more K Z R (λ b. b) up (λ k. k) (λ z. z) (h i l)))

  module _ {s : St} {n : ℕ} {ws : List ℕ} {m : Mem K.V} {d : Drives} (o : On s n ws m d) where
    -- where what was done is lost
    pub undone : {P : St → Type 0} {c : Rows} → P (fallen s) → Under K Z R (fallen s).cells c → (q : Record K.V) → q ≡ m.root → Possible P c q
    undone p u q e = (fallen s, p, o.pays ∙ ap (payload K) (sym e), u, λ z r b k. o.none_kept (sym e ∙ z) r b (fallen_kept (s.cells r) k))

    pub stands_fit : {e : Drives} → Each (Stands s n ws m) e → Each (λ i x. Fit K Z R s.cells (Weak ws i) (Weak ws i) (λ q. q ≡ m.root) i x) e
    stands_fit h i l = stand_fit K Z R (h i l).0 (h i l).1

    pub stands_cuts : {P : St → Type 0} → P (fallen s) → (e : Drives) → Each (Stands s n ws m) e → Cuts (Off P ws) e
    stands_cuts p e h = cuts_settled s.cells (undone p (under_fallen s.cells)) e (stands_fit h)

  -- HOW A DRIVE STANDS once its label is settled

  pub stand_final : {c : Rows} {W B : Type 0} {q : Record K.V} {p n i : ℕ} (x : Slot) → Calm 0 x → May K W B (λ o. (o ≡ q) × Has K Z R c i x) (sight 0 x) → (is_gone x ≡ false → Shows K Z R c i x) →
      (is_gone x ≡ false → record_in K (shown x 0) ≡ none → B → W × (is_mark (K.decode (shown x 0)) ≡ true → Caught K Z R c p i x) × (is_mark (K.decode (shown x 0)) ≡ false → n ≡ 0)) → Stand K Z R c W q p n i x
  unfolding is_gone
  stand_final gone k (lacks w) s y = no_drive w
  stand_final {c} {W} {B} {q} {p} {n} {i} (there d) k f s y = go (latest (d.kept 0) (d.since 0)) refl f
    where
      go : (b : List ℕ) → b ≡ latest (d.kept 0) (d.since 0) → May K W B (λ o. (o ≡ q) × Has K Z R c i (there d)) (sees b) → Stand K Z R c W q p n i (there d)
      go b z (shows o e (g, h)) = trusts (calm_holds k (subst (λ (a : List ℕ). IsRecord K Z R q (sees a)) z (is_record (e ∙ ap some g)))) h (s refl)
      go b z (bare e w) =
          let (a, m, u) = y refl (ap (record_in K) (shown_sight 0 (there d) ∙ sym z) ∙ e) w in lacks_it a (calm_holds k (subst (λ (a : List ℕ). NoRecord K Z R (sees a)) z (no_record e))) m u
