-- A layer that spells calls in other words keeps to the judge below, spelled so.
-- Assumes nothing.
use mathlib.Core.Path.{◌≡◌, refl, sym, ap, subst⁻¹}
use Prim.Native.Nat.{ℕ}
use Rattle.drives.specs.Machines.{Judge}
use Rattle.drives.specs.Layers.{gives, Comes, CutShort, KeepsAbove}
use Rattle.drives.specs.Simulation.{Holds}
use Rattle.drives.specs.Spelling.{spelling, Spelled, spelled, spelt, Sane}
use Rattle.drives.proofs.Simulation.{keeps_above}

pub ended : {C R A : Type 0} (j : Judge C R) {y a : A} {s t : j.State} → Comes j (gives y) s a t → (a ≡ y) × (t ≡ s)
ended j Comes.ends = (refl, refl)

module _ {C R C' R' : Type 0} (call : C' → C) (reply : R → R') where
  module _ (j : Judge C R) (sane : Sane j) (size : ℕ) where
    abbrev Same : j.State → j.State → Type 0
    Same s a = a ≡ s

    rises : {s t : j.State} {m : Unit {0}} {a : j.State} → Same s a → Comes j ((spelling call reply).comes_up size) s m t → Same t a
    rises e Comes.ends = e

    rise_cut : {s u : j.State} {a : j.State} → Same s a → CutShort j ((spelling call reply).comes_up size) s u → (b : j.State) × j.Down a b × Same u b
    rise_cut {u = u} e (CutShort.at_once f) = (u, subst⁻¹ (λ x. j.Down x u) e f, refl)

    answered : (c : C') {x : record { reply : R'; mem : Unit {0} }} {s t : j.State} {m : Unit {0}} {a : j.State} → Same s a → Comes j ((spelling call reply).answers c m) s x t →
        (b : j.State) × Spelled call reply j c a x.reply b × Same t b
    answered c {x} {s} {t} e (Comes.goes_on {r = r} {t = y} q k) =
        let (p, z) = ended j k in
        (y, subst⁻¹ (λ a. Spelled call reply j c a x.reply y) e (subst⁻¹ (λ (a : R'). Spelled call reply j c s a y) (ap (λ w. w.reply) p) (spelled q)), sym z)

    cut_short : (c : C') {s u : j.State} {m : Unit {0}} → CutShort j ((spelling call reply).answers c m) s u → j.Cut (call c) s u
    cut_short c (CutShort.at_once f) = sane.before (call c) f
    cut_short c (CutShort.in_call f) = f
    cut_short c (CutShort.later q (CutShort.at_once f)) = sane.after (call c) q f

    holds : Holds j (spelt call reply j) (spelling call reply) size Same (λ m. Same)
    holds =
        record {
          begins = refl;
          rises = rises;
          rise_cut = rise_cut;
          call = answered;
          call_cut = λ c {s} {u} {m} {a} e q. (u, subst⁻¹ (λ a. j.Cut (call c) a u) e (cut_short c q), refl);
          falls = λ {s} {u} e f. (u, subst⁻¹ (λ x. j.Down x u) e f, refl);
        }

  pub spelling_keeps : (j : ℕ → Judge C R) → ((size : ℕ) → Sane (j size)) → KeepsAbove j (λ size. spelt call reply (j size)) (spelling call reply)
  spelling_keeps j sane = keeps_above {Off = λ size. Same (j size) (sane size) size} {On = λ size m. Same (j size) (sane size) size} (λ size lo hi. holds (j size) (sane size) size)
