-- What rows promise over whole runs.
-- Assumes nothing.
use Rattle.std.specs.Prelude.{◌≡◌, ℕ, ◌<◌}
use Rattle.rows.specs.Rows.{State, Call, ReadRow, WriteRow, SetRoot, GetRoot, Reply, RowIs, Done, Answers, CutIn, fallen}

-- a call that doesn't write the row r
pub data Spares {B V : Type 0} (r : ℕ) : Call B V → Type 0 where
  by_read : {q : ℕ} → Spares r (ReadRow q)
  by_write : {q : ℕ} {b : B} → (r ≡ q → ⊥) → Spares r (WriteRow q b)
  by_set : {v : V} → Spares r (SetRoot v)
  by_get : Spares r GetRoot

-- Calm zero rows r s t: calls that don't write the row r lead from s to t, and no cut falls.
pub data Calm {B V : Type 0} (zero : B) (rows r : ℕ) : State B V → State B V → Type 0 where
  at_once : {s : State B V} → Calm zero rows r s s
  a_call : {s t u : State B V} {c : Call B V} {a : Reply B V} → Spares r c → Answers zero rows c s a t → Calm zero rows r t u → Calm zero rows r s u

-- Run zero rows r s t: the same with cuts, in calls and between them.
pub data Run {B V : Type 0} (zero : B) (rows r : ℕ) : State B V → State B V → Type 0 where
  at_once : {s : State B V} → Run zero rows r s s
  a_call : {s t u : State B V} {c : Call B V} {a : Reply B V} → Spares r c → Answers zero rows c s a t → Run zero rows r t u → Run zero rows r s u
  a_cut_call : {s t u : State B V} {c : Call B V} → Spares r c → CutIn rows c s t → Run zero rows r t u → Run zero rows r s u
  a_cut : {s u : State B V} → Run zero rows r (fallen s) u → Run zero rows r s u

-- A contract can't speak of all types at once. So it cites the theorem at the types that the caller gives.
pub record Kinds : Type 1 where
  pub B : Type 0
  pub V : Type 0

-- COMMITTED ROWS STAY: what was written to a row and then committed is read from it, through any calls and cuts, until it is written again.
abbrev pub RowsStay : Kinds → Type 0
RowsStay g =
    (zero : g.B) (rows r : ℕ) (b a : g.B) (v : g.V) (s t u w x : State g.B g.V) → r < rows →
    Answers zero rows (WriteRow r b) s Done t → Calm zero rows r t u → Answers zero rows (SetRoot v) u Done w →
    Run zero rows r w x → Answers zero rows (ReadRow r) x (RowIs a) x → a ≡ b
