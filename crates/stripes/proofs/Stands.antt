-- Stripes stand.
-- Assumes nothing.
use mathlib.Core.Path.{◌≡◌, refl, sym, ◌∙◌, ap, subst, subst⁻¹}
use mathlib.Core.Bool.{false, true≢false}
use mathlib.Core.Option.{some}
use mathlib.Core.List.{List, ◌∷◌}
use Prim.Native.Nat.{ℕ}
use native.Mathlib.Omega.{arith}
use Rattle.drives.specs.Drives.{zeros, blank_drive, Slot, gone, there, Drives, latest, shown, put}
use Rattle.drives.specs.Machines.{without}
use Rattle.crash.specs.Refinement.{Few}
use Rattle.crash.specs.RefinementBy.{RefinesBy, RefinementBy}
use Rattle.crash.proofs.Updates.{put_elim}
use Rattle.crash.proofs.Sectors.{away, holds_blank, holds_more, calm_blank}
use Rattle.crash.proofs.Weak.{Weak, weak_lost, weak_still}
use Rattle.crash.proofs.Does.{Each}
use Rattle.crash.proofs.RefinementBy.{refined_keeps_by}
use Rattle.root.specs.Root.{Record, empty, blank, Codec, Lawful}
use Rattle.root.proofs.Root.{lacks, bare, may_more, blank_bare, some_record}
use Rattle.rows.specs.Rows.{Call, Reply, blank_state}
use Rattle.stripes.specs.Coding.{Coding, LawfulCoding}
use Rattle.stripes.specs.Stripes.{is_mark, Mem, judge, stripes, soon, StripesStand}
use Rattle.stripes.proofs.Standing.{Zeros, no_record, Sit, Stand, no_drive, trusts, lacks_it, sit_fit, no_zeros, blank_zeros}
use Rattle.stripes.proofs.Invariant.{St, R, Rows, Possible, Off, settled, unset, On, stands_cuts}
use Rattle.stripes.proofs.Opening.{opens}
use Rattle.stripes.proofs.Calls.{calls}
use Rattle.stripes.proofs.Mending.{mends}
use Rattle.stripes.proofs.Bounds.{stripes_bounded, asks_little}

module _ (K : Codec) (law : Lawful K) (Z : Coding) (cod : LawfulCoding Z) (size : ℕ) where
  -- a blank drive shows no record, and no mark
  blank_text : shown (there blank_drive) 0 ≡ zeros 512
  unfolding shown latest
  blank_text = refl

  blank_no_mark : is_mark (K.decode (shown (there blank_drive) 0)) ≡ false
  blank_no_mark = ap (λ b. is_mark (K.decode b)) blank_text ∙ ap is_mark (subst (λ (b : List ℕ). K.decode b ≡ some blank) law.blank_is (law.there blank))

  -- WHILE OFF

  blank_sit : {c : Rows K Z size} {W B : Type 0} {C : Record K.V → Type 0} {i : ℕ} → B → Sit K Z (R K Z size) c W B C i (there blank_drive)
  unfolding latest
  blank_sit {c} b = (calm_blank 0, bare (blank_bare K law) b, blank_zeros K Z (R K Z size) c)

  sit_weaker : {c : Rows K Z size} {W W' B B' : Type 0} {C : Record K.V → Type 0} {i : ℕ} {x : Slot} → (W → W') → (B → B') → Sit K Z (R K Z size) c W B C i x → Sit K Z (R K Z size) c W' B' C i x
  sit_weaker w b (k, m, z) = (k, may_more w b (λ q p. p) _ m, z)

  gone_weak : {c : Rows K Z size} {W B : Type 0} {C : Record K.V → Type 0} {i : ℕ} → Sit K Z (R K Z size) c W B C i gone → W
  gone_weak (k, lacks w, z) = w

  module _ (c : Rows K Z size) (C : Record K.V → Type 0) (ws : List ℕ) (d : Drives) (i : ℕ) where
    abbrev Sits : (W B : ℕ → Type 0) → ℕ → Slot → Type 0
    Sits W B j x = Sit K Z (R K Z size) c (W j) (B j) C j x

    sits_lost : (B B' : ℕ → Type 0) → ((j : ℕ) → B j → B' j) → Each (Sits (Weak ws) B) d → Each (Sits (Weak (i ∷ without i ws)) B') (put i gone d)
    sits_lost B B' b h j l =
        put_elim (Sits (Weak (i ∷ without i ws)) B' j) i j gone d (λ e. (away refl, lacks (subst⁻¹ (Weak (i ∷ without i ws)) e (weak_lost i ws)), no_zeros K Z (R K Z size) c)) (λ n. sit_weaker (weak_still i ws) (b j) (h j l))

    sits_replaced : (B : ℕ → Type 0) → ((j : ℕ) → Weak ws j → B j) → d i ≡ gone → Each (Sits (Weak ws) B) d → Each (Sits (Weak ws) B) (put i (there blank_drive) d)
    sits_replaced B b g h j l = put_elim (Sits (Weak ws) B j) i j (there blank_drive) d (λ e. blank_sit (b j (gone_weak (subst (Sits (Weak ws) B j) (ap d e ∙ g) (h j l))))) (λ n. h j l)

  loses_off : {P : St K Z size → Type 0} {ws : List ℕ} {d : Drives} (i : ℕ) → Off K Z size P ws d → Off K Z size P (i ∷ without i ws) (put i gone d)
  loses_off {P} {ws} {d} i (settled c h) = settled c (sits_lost c (Possible K Z size P c) ws d i (Weak ws) (Weak (i ∷ without i ws)) (λ j. weak_still i ws) h)
  loses_off {P} {ws} {d} i (unset s p y u n h) = unset s p y u n (sits_lost s.cells (λ q. q ≡ empty) ws d i (λ j. Unit {0}) (λ j. Unit {0}) (λ j b. b) h)

  replaces_off : {P : St K Z size → Type 0} {ws : List ℕ} {d : Drives} (i : ℕ) → d i ≡ gone → Off K Z size P ws d → Off K Z size P ws (put i (there blank_drive) d)
  replaces_off {P} {ws} {d} i g (settled c h) = settled c (sits_replaced c (Possible K Z size P c) ws d i (Weak ws) (λ j w. w) g h)
  replaces_off {P} {ws} {d} i g (unset s p y u n h) = unset s p y u n (sits_replaced s.cells (λ q. q ≡ empty) ws d i (λ j. Unit {0}) (λ j w. tt) g h)

  some_state : {P : St K Z size → Type 0} {ws : List ℕ} {d : Drives} → Few ws → Off K Z size P ws d → (s : St K Z size) × P s
  some_state few (settled c h) = let x = some_record K law few (λ i l. holds_more (may_more (λ w. w) (λ w. w) (λ q k. k.0)) (sit_fit K Z (R K Z size) (h i l)).0) in (x.fine.0, x.fine.1)
  some_state few (unset s p y u n h) = (s, p)

  -- WHILE ON

  module _ {c : Rows K Z size} {q : Record K.V} {p n i : ℕ} where
    stand_weaker : {W W' : Type 0} {x : Slot} → (W → W') → Stand K Z (R K Z size) c W q p n i x → Stand K Z (R K Z size) c W' q p 0 i x
    stand_weaker w (no_drive x) = no_drive (w x)
    stand_weaker w (trusts h a b) = trusts h a b
    stand_weaker w (lacks_it x h a b) = lacks_it (w x) h a (λ e. refl)

    stand_gone : {W : Type 0} → Stand K Z (R K Z size) c W q p n i gone → W
    stand_gone (no_drive w) = w
    stand_gone (trusts (away h) a b) = elim h [ ]
    stand_gone (lacks_it w h a b) = w

  blank_stand : {c : Rows K Z size} {q : Record K.V} {p i : ℕ} {W : Type 0} → W → Stand K Z (R K Z size) c W q p 0 i (there blank_drive)
  blank_stand w = lacks_it w (holds_blank (no_record (blank_bare K law))) (λ e. absurd (true≢false (sym e ∙ blank_no_mark))) (λ e. refl)

  loses_on : {s : St K Z size} {n : ℕ} {ws : List ℕ} {m : Mem K.V} {d : Drives} (i : ℕ) → On K Z size s n ws m d → On K Z size s 0 (i ∷ without i ws) m (put i gone d)
  loses_on {s} {n} {ws} {m} {d} i o =
      record {
        sized = o.sized;
        pays = o.pays;
        none_kept = o.none_kept;
        counts = omega arith;
        drives = λ j l. put_elim (λ x. Stand K Z (R K Z size) s.cells (Weak (i ∷ without i ws) j) m.root m.place 0 j x × Zeros K Z (R K Z size) s.cells x) i j gone d
            (λ e. (no_drive (subst⁻¹ (Weak (i ∷ without i ws)) e (weak_lost i ws)), no_zeros K Z (R K Z size) s.cells))
            (λ k. (stand_weaker (weak_still i ws) (o.drives j l).0, (o.drives j l).1));
      }

  replaces_on : {s : St K Z size} {n : ℕ} {ws : List ℕ} {m : Mem K.V} {d : Drives} (i : ℕ) → d i ≡ gone → On K Z size s n ws m d → On K Z size s 0 ws m (put i (there blank_drive) d)
  replaces_on {s} {n} {ws} {m} {d} i g o =
      record {
        sized = o.sized;
        pays = o.pays;
        none_kept = o.none_kept;
        counts = omega arith;
        drives = λ j l. put_elim (λ x. Stand K Z (R K Z size) s.cells (Weak ws j) m.root m.place 0 j x × Zeros K Z (R K Z size) s.cells x) i j (there blank_drive) d
            (λ e. (blank_stand (stand_gone (subst (λ x. Stand K Z (R K Z size) s.cells (Weak ws j) m.root m.place n j x) (ap d e ∙ g) (o.drives j l).0)), blank_zeros K Z (R K Z size) s.cells))
            (λ k. (stand_weaker (λ w. w) (o.drives j l).0, (o.drives j l).1));
      }

  stripes_refine : RefinesBy (judge K Z size) (stripes K Z) size (soon size) (Off K Z size) (On K Z size)
  stripes_refine =
      record {
        begins = unset (blank_state K.first) refl refl (record { keeps = λ r b e. e; nevers = λ r e. e; plain = λ r b e. let z : ◌≡◌ {A = ℕ} 0 1 = cc in omega arith }) (λ r b e. let z : ◌≡◌ {A = ℕ} 0 1 = cc in omega arith) (λ i l. blank_sit tt);
        some_state = some_state;
        opens = λ few h. opens K law Z size few h;
        calls = λ c few o. calls K law Z cod size c few o;
        mends = λ few w o. mends K law Z cod size few w o;
        rests = λ {d = d} few o. stands_cuts K Z size o refl d o.drives;
        loses_off = λ i b h. loses_off i h;
        loses_on = λ i b o. loses_on i o;
        replaces_off = λ i b g h. replaces_off i g h;
        replaces_on = λ i b g o. replaces_on i g o;
      }

pub stripes_stand : (K : Codec) → Lawful K → (Z : Coding) → LawfulCoding Z → StripesStand K Z
stripes_stand K law Z cod =
    let (keeps, within) = refined_keeps_by refinement in (keeps, within, asks_little K Z)
  where
    refinement : RefinementBy
    refinement =
        record {
          C = Call Z.Row K.V;
          R = Reply Z.Row K.V;
          j = judge K Z;
          e = stripes K Z;
          most = soon;
          Off = Off K Z;
          On = On K Z;
          refines = λ size lo hi. stripes_refine K law Z cod size;
          bounded = λ size lo hi. stripes_bounded K law Z cod size lo;
        }
