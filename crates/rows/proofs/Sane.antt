-- A call of rows that was cut may have been cut before it began, or after it ended.
-- Assumes nothing.
use mathlib.Core.Path.{◌≡◌, sym, ◌∙◌, ap, subst⁻¹, fun_ext}
use Prim.Native.Nat.{ℕ}
use Rattle.drives.specs.Spelling.{Sane}
use Rattle.crash.proofs.Updates.{put_elim, put_at_lem, put_off}
use Rattle.drives.specs.Drives.{put}
use Rattle.rows.specs.Rows.{Cell, unknown, fresh, State, Call, Reply, fallen_cell, fallen, with_cell, Answers, CutIn, rows_judge}

module _ {B V : Type 0} (zero : B) (first : V) (rows : ℕ) where
  -- a row that was written and not committed is as unknown as one that was being written
  fallen_row : (r : ℕ) (b : B) (s : State B V) → fallen (with_cell r (fresh b) s) ≡ fallen (with_cell r unknown s)
  fallen_row r b s = ap (λ (c : ℕ → Cell B). record { cells = c; payload = s.payload }) (fun_ext same)
    where
      same : (q : ℕ) → fallen_cell (put r (fresh b) s.cells q) ≡ fallen_cell (put r unknown s.cells q)
      same q =
          put_elim (λ x. fallen_cell x ≡ fallen_cell (put r unknown s.cells q)) r q (fresh b) s.cells
          (λ e. subst⁻¹ (λ k. unknown ≡ fallen_cell (put r unknown s.cells k)) e (ap fallen_cell (sym (put_at_lem r unknown s.cells))))
          (λ n. ap fallen_cell (sym (put_off r q unknown s.cells n)))

  after : (c : Call B V) {s t : State B V} {a : Reply B V} {u : State B V} → Answers zero rows c s a t → u ≡ fallen t → CutIn rows c s u
  after c {s} (Answers.reads l e) d = subst⁻¹ (CutIn rows c s) d CutIn.undone
  after c {s} (Answers.writes {r = r} {b = b} l) d = subst⁻¹ (CutIn rows c s) (d ∙ fallen_row r b s) (CutIn.write_cut l)
  after c {s} Answers.sets d = subst⁻¹ (CutIn rows c s) d CutIn.set_done
  after c {s} Answers.gets d = subst⁻¹ (CutIn rows c s) d CutIn.undone
  after c {s} (Answers.no_read l) d = subst⁻¹ (CutIn rows c s) d CutIn.undone
  after c {s} (Answers.no_write l) d = subst⁻¹ (CutIn rows c s) d CutIn.undone

  pub rows_sane : Sane (rows_judge zero first rows)
  rows_sane = record { before = λ c {s} d. subst⁻¹ (CutIn rows c s) d CutIn.undone; after = λ c a d. after c a d }
