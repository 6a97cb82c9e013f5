-- Opening: what is found is settled on all trusted drives, before anything is answered.
-- Assumes nothing.
use mathlib.Core.Path.{◌≡◌, refl, sym, ◌∙◌, ap, subst}
use mathlib.Core.Bool.{true, false, true≢false}
use mathlib.Core.Option.{Option, none, some}
use mathlib.Core.List.{List}
use Prim.Native.Nat.{ℕ, ◌<◌}
use native.Mathlib.Omega.{arith}
use Rattle.drives.specs.Drives.{Slot, Drives, shown}
use Rattle.crash.specs.Refinement.{Does, Cuts, Few, Fallen}
use Rattle.crash.proofs.Sectors.{sight, shown_sight, holds_more}
use Rattle.crash.proofs.Weak.{Weak}
use Rattle.crash.proofs.Does.{Each, Read, does_read_all}
use Rattle.root.specs.Root.{Record, empty, committed, Codec, Lawful, record_in, committed_in, committed_of, trusted, payload, lowest}
use Rattle.root.proofs.Root.{May, may_more, may_record, Labelled, some_record, Found, found, never, empty_is, committed_is}
use Rattle.stripes.specs.Coding.{Coding}
use Rattle.stripes.specs.Stripes.{Mem, judge, opening, stripes}
use Rattle.stripes.proofs.Standing.{Has, Under, NoneKept, Sit, sit_fit, has_under, zeros_under, fit_cut}
use Rattle.stripes.proofs.Settling.{Settles, After, does_settle}
use Rattle.stripes.proofs.Invariant.{may_by, untrusted_bare, trusted_has, St, R, Rows, Possible, Off, settled, unset, On, fallen_is, cuts_settled, stand_final}

module _ (K : Codec) (law : Lawful K) (Z : Coding) (size : ℕ) where
  abbrev pub Opened : (St K Z size → Type 0) → List ℕ → Mem K.V → Drives → Type 0
  Opened P ws m e = (s : St K Z size) × P s × On K Z size s 0 ws m e

  abbrev Lets : (St K Z size → Type 0) → List ℕ → Drives → Type 0
  Lets P ws = Cuts (Off K Z size (Fallen (judge K Z size) P) ws)

  abbrev started : Record K.V → Mem K.V
  started q = record { size = size; root = q; place = 0 }

  -- the record that a drive shows
  pub sit_record : {c : Rows K Z size} {W B : Type 0} {C : Record K.V → Type 0} {i : ℕ} {x : Slot} {q : Record K.V} → Sit K Z (R K Z size) c W B C i x → record_in K (shown x 0) ≡ some q → C q × Has K Z (R K Z size) c i x
  sit_record {x = x} {q = q} (k, h, z) e = may_record K law h (subst (λ (b : List ℕ). record_in K b ≡ some q) (shown_sight 0 x) e)

  none_has : {c : Rows K Z size} → NoneKept K Z (R K Z size) c → (i : ℕ) (x : Slot) → Has K Z (R K Z size) c i x
  none_has n i x r k b l a e = absurd (n r b e)

  -- WHERE NOTHING IS COMMITTED, every drive is told so
  module _ (P : St K Z size → Type 0) (ws : List ℕ) (s : St K Z size) (p : P s) (pays : s.payload ≡ K.first) (u : Under K Z (R K Z size) s.cells s.cells) (n : NoneKept K Z (R K Z size) s.cells) where
    abbrev Empty : ℕ → Slot → Type 0
    Empty i x = Sit K Z (R K Z size) s.cells (Weak ws i) (Unit {0}) (λ q. q ≡ empty) i x

    told : Settles K law Z (R K Z size) s.cells (Weak ws) (λ i. Unit {0}) (λ i. ⊥) (λ q. q ≡ empty) (λ i. true) empty (λ i x. Unit {0})
    told = record { own = refl; fewer = λ i b. tt; label_keeps = λ i x e y. tt; sync_keeps = λ i x y. tt }

    opened_empty : (e : Drives) → Each (After K law Z (R K Z size) told) e → Opened P ws (started empty) e
    opened_empty e h = (
      s,
      p,
      record {
        sized = refl;
        pays = pays;
        none_kept = λ z. n;
        counts = omega arith;
        drives = λ i l. let (k, f, z, y) = h i l in (stand_final K Z size (e i) k f (λ g r k b l a e. absurd (u.plain r b e)) (λ g e b. absurd b), z);
      },
    )

    opens_none : {d : Drives} (f : ℕ → List ℕ) → Each Empty d → Does (Lets P ws) (Opened P ws) (opening K size none f) d
    unfolding opening
    opens_none f h =
        does_settle K law Z (R K Z size) told (started empty)
        (λ e g a c. unset s (s, p, fallen_is K Z size s u) pays u n (λ i l. fit_cut K Z (R K Z size) (c i) (g i l)))
        opened_empty
        (λ i l. (sit_fit K Z (R K Z size) (h i l), (λ e g. none_has n i _), (λ e. absurd (true≢false e)), tt))

    opens_unset : {d : Drives} → Each Empty d → Does (Lets P ws) (Opened P ws) ((stripes K Z).opens size) d
    opens_unset {d} h = does_read_all 0 (λ f read. go f read (lowest K 6 none f) (found K law f))
      where
        go : (f : ℕ → List ℕ) → Read 0 d f → (o : Option K.V) → Found K law 0 f o → Does (Lets P ws) (Opened P ws) (opening K size o f) d
        go f read none nothing = opens_none f h
        go f read (some v) (i, b, e) =
            let q : committed v ≡ empty = (sit_record (h i b) (committed_is _ (subst (λ (b : List ℕ). committed_in K b ≡ some v) (read i b) e))).0 in
            let z : ◌≡◌ {A = ℕ} 0 1 = cc in
            absurd (omega arith)

  -- WHERE DRIVES HAVE RECORDS, what is committed is settled on them; if nothing is, one of them says so
  module _ {P : St K Z size → Type 0} {ws : List ℕ} (few : Few ws) (c : Rows K Z size) {d : Drives} (h : Each (λ i x. Sit K Z (R K Z size) c (Weak ws i) (Weak ws i) (Possible K Z size P c) i x) d) where
    labels : Labelled K (Weak ws) (Weak ws) (Possible K Z size P c) d
    labels i l = holds_more (may_more (λ w. w) (λ w. w) (λ q k. k.0)) (sit_fit K Z (R K Z size) (h i l)).0

    all_empty : (f : ℕ → List ℕ) → Read 0 d f → ((i : ℕ) → i < 6 → committed_in K (f i) ≡ none) → (s : St K Z size) → Under K Z (R K Z size) s.cells c → NoneKept K Z (R K Z size) s.cells →
        Each (λ i x. Sit K Z (R K Z size) s.cells (Weak ws i) (Unit {0}) (λ q. q ≡ empty) i x) d
    all_empty f read nothing s u n i l =
        let (k, m, z) = h i l in (
          k,
          may_by (sight 0 (d i)) (λ e w. tt) (λ q e y. (empty_is q (ap committed_of (sym e) ∙ ap (committed_in K) (sym (shown_sight 0 (d i))) ∙ ap (committed_in K) (sym (read i l)) ∙ nothing i l), none_has n i (d i))) m,
          zeros_under K Z (R K Z size) u z,
        )

    -- of the state that the settled record stands for
    module _ (s : St K Z size) (v : K.V) (p : P s) (pays : s.payload ≡ v) (u : Under K Z (R K Z size) s.cells c) (f : ℕ → List ℕ) (read : Read 0 d f) where
      agreed : Settles K law Z (R K Z size) c (Weak ws) (Weak ws) (Weak ws) (Possible K Z size P c) (λ i. trusted K (f i)) (committed v) (λ i x. Unit {0})
      agreed = record { own = (s, p, pays, u, λ e. let z : ◌≡◌ {A = ℕ} 0 1 = cc in absurd (omega arith)); fewer = λ i w. w; label_keeps = λ i x e y. tt; sync_keeps = λ i x y. tt }

      opened_some : (e : Drives) → Each (After K law Z (R K Z size) agreed) e → Opened P ws (started (committed v)) e
      opened_some e g = (
        s,
        p,
        record {
          sized = refl;
          pays = pays;
          none_kept = λ e. let z : ◌≡◌ {A = ℕ} 0 1 = cc in absurd (omega arith);
          counts = omega arith;
          drives = λ i l. let (k, m, z, y) = g i l in (
            stand_final K Z size (e i) k (may_more (λ w. w) (λ w. w) (λ q (a, b). (a, has_under K Z (R K Z size) u b)) _ m) (λ g r k b l a e. absurd (u.plain r b e)) (λ g e w. (w, (λ t r k b l a o. absurd (omega arith)), λ t. refl)),
            zeros_under K Z (R K Z size) u z,
          );
        },
      )

      opens_some : Does (Lets P ws) (Opened P ws) (opening K size (some v) f) d
      unfolding opening
      opens_some =
          does_settle K law Z (R K Z size) agreed (started (committed v))
          (cuts_settled K Z size c (λ q (a, b, e, k, n). (a, (a, b, fallen_is K Z size a k), e, k, n)))
          opened_some
          (λ i l. (sit_fit K Z (R K Z size) (h i l), (λ e g. has_it i l e), (λ e. stays i l e), tt))
        where
          has_it : (i : ℕ) (l : i < 6) → trusted K (f i) ≡ true → Has K Z (R K Z size) c i (d i)
          has_it i l e = let (q, k) = trusted_has _ e in (sit_record (h i l) (ap (record_in K) (sym (read i l)) ∙ k)).1

          stays : (i : ℕ) (l : i < 6) → trusted K (f i) ≡ false → May K (Weak ws i) (Weak ws i) (λ o. (o ≡ committed v) × Has K Z (R K Z size) c i (d i)) (sight 0 (d i))
          stays i l e = may_by (sight 0 (d i)) (λ e w. w) (λ q k y. never (ap (record_in K) (sym (shown_sight 0 (d i)) ∙ sym (read i l)) ∙ untrusted_bare _ e) k) (h i l).1

    opens_settled : Does (Lets P ws) (Opened P ws) ((stripes K Z).opens size) d
    opens_settled = does_read_all 0 (λ f read. go f read (lowest K 6 none f) (found K law f))
      where
        go : (f : ℕ → List ℕ) → Read 0 d f → (o : Option K.V) → Found K law 0 f o → Does (Lets P ws) (Opened P ws) (opening K size o f) d
        go f read none nothing =
            let x = some_record K law few labels in
            let e : x.what ≡ empty = empty_is x.what (ap committed_of (sym x.shows_it) ∙ ap (committed_in K) (sym (read x.drive x.below)) ∙ nothing x.drive (omega arith) x.below) in
            let (s, p, y, u, n) = x.fine in
            opens_none P ws s p (y ∙ ap (payload K) e) (record { keeps = λ r b k. k; nevers = λ r k. k; plain = u.plain }) (n e) f (all_empty f read (λ i l. nothing i (omega arith) l) s u (n e))
        go f read (some v) (i, b, e) =
            let (s, p, y, u, n) = (sit_record (h i b) (committed_is _ (subst (λ (b : List ℕ). committed_in K b ≡ some v) (read i b) e))).0 in
            opens_some s v p y u f read

  pub opens : {P : St K Z size → Type 0} {ws : List ℕ} {d : Drives} → Few ws → Off K Z size P ws d → Does (Lets P ws) (Opened P ws) ((stripes K Z).opens size) d
  opens few (settled c h) = opens_settled few c h
  opens {P} {ws} few (unset s p y u n h) = opens_unset P ws s p y u n h
