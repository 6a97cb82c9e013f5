-- Committed rows stay.
-- Assumes nothing.
use mathlib.Core.Path.{◌≡◌, ◌∙◌, ap}
use Prim.Native.Nat.{ℕ}
use native.Mathlib.Omega.{arith}
use Rattle.crash.proofs.Updates.{put_at_lem, put_off}
use Rattle.rows.specs.Rows.{Cell, unknown, fresh, kept, State, Call, ReadRow, WriteRow, SetRoot, Reply, RowIs, Done, kept_cell, fallen_cell, Reads, Answers, CutIn}
use Rattle.rows.specs.Laws.{Spares, Calm, Run, Kinds, RowsStay}

-- a row that is kept reads as what it has
reads_kept : {B : Type 0} {zero a b : B} {c : Cell B} → c ≡ kept b → Reads zero c a → a ≡ b
reads_kept e Reads.zeros = absurd (let z : ◌≡◌ {A = ℕ} 0 1 = cc in omega arith)
reads_kept e (Reads.anything a) = absurd (let z : ◌≡◌ {A = ℕ} 0 1 = cc in omega arith)
reads_kept e (Reads.written a) = absurd (let z : ◌≡◌ {A = ℕ} 0 1 = cc in omega arith)
reads_kept e (Reads.committed a) = cc

module _ {B V : Type 0} (zero : B) (rows r : ℕ) (b : B) where
  -- what a commit would keep of the row
  abbrev Holding : State B V → Type 0
  Holding s = kept_cell (s.cells r) ≡ kept b

  answer_holds : {c : Call B V} {s t : State B V} {a : Reply B V} → Spares r c → Answers zero rows c s a t → Holding s → Holding t
  answer_holds x (Answers.reads l e) h = h
  answer_holds (Spares.by_write n) (Answers.writes {r = q} {b = d} {s = s} l) h = ap kept_cell (put_off q r (fresh d) s.cells n) ∙ h
  answer_holds x Answers.sets h = ap kept_cell h
  answer_holds x Answers.gets h = h
  answer_holds x (Answers.no_read l) h = h
  answer_holds x (Answers.no_write l) h = h

  calm_holds : {s t : State B V} → Calm zero rows r s t → Holding s → Holding t
  calm_holds Calm.at_once h = h
  calm_holds (Calm.a_call x a k) h = calm_holds k (answer_holds x a h)

  -- the row is kept
  abbrev Keeping : State B V → Type 0
  Keeping s = s.cells r ≡ kept b

  answer_keeps : {c : Call B V} {s t : State B V} {a : Reply B V} → Spares r c → Answers zero rows c s a t → Keeping s → Keeping t
  answer_keeps x (Answers.reads l e) h = h
  answer_keeps (Spares.by_write n) (Answers.writes {r = q} {b = d} {s = s} l) h = put_off q r (fresh d) s.cells n ∙ h
  answer_keeps x Answers.sets h = ap kept_cell h
  answer_keeps x Answers.gets h = h
  answer_keeps x (Answers.no_read l) h = h
  answer_keeps x (Answers.no_write l) h = h

  cut_keeps : {c : Call B V} {s t : State B V} → Spares r c → CutIn rows c s t → Keeping s → Keeping t
  cut_keeps x CutIn.undone h = ap fallen_cell h
  cut_keeps (Spares.by_write n) (CutIn.write_cut {r = q} {s = s} l) h = ap fallen_cell (put_off q r unknown s.cells n ∙ h)
  cut_keeps x CutIn.set_done h = ap (λ c. fallen_cell (kept_cell c)) h

  run_keeps : {s t : State B V} → Run zero rows r s t → Keeping s → Keeping t
  run_keeps Run.at_once h = h
  run_keeps (Run.a_call x a k) h = run_keeps k (answer_keeps x a h)
  run_keeps (Run.a_cut_call x a k) h = run_keeps k (cut_keeps x a h)
  run_keeps (Run.a_cut k) h = run_keeps k (ap fallen_cell h)

  read_is : {a : B} {s t : State B V} → Keeping s → Answers zero rows (ReadRow r) s (RowIs a) t → a ≡ b
  read_is h (Answers.reads l e) = reads_kept h e

  write_holds : {s t : State B V} → Answers zero rows (WriteRow r b) s Done t → Holding t
  write_holds (Answers.writes {s = s} l) = ap kept_cell (put_at_lem r (fresh b) s.cells)

  set_keeps : {v : V} {s t : State B V} → Answers zero rows (SetRoot v) s Done t → Holding s → Keeping t
  set_keeps Answers.sets h = h

pub rows_stay : (g : Kinds) → RowsStay g
rows_stay g zero rows r b a v s t u w x l wr k st run rd =
    read_is zero rows r b (run_keeps zero rows r b run (set_keeps zero rows r b st (calm_holds zero rows r b k (write_holds zero rows r b wr)))) rd
