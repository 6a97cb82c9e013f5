-- Rows and one payload, as a layer above them sees them: no drives, no shards, no mending.
-- Assumes nothing.
use Rattle.std.specs.Prelude.{◌≡◌, ℕ, ◌-◌, ◌/◌, ◌<◌, ◌≤◌}
use Rattle.drives.specs.Drives.{put}
use Rattle.drives.specs.Machines.{Judge}

-- A row was never written, and reads as zeros; or nothing is known of it, and it reads as anything, each time anew; or it was written since the last commit; or what it has is kept.
pub data Cell (B : Type 0) : Type 0 where
  never unknown : Cell B
  fresh kept : B → Cell B

pub record State (B V : Type 0) : Type 0 where
  pub cells : ℕ → Cell B
  pub payload : V

-- SetRoot is the commit: it keeps all rows that are fresh, together with the payload.
pub data Call (B V : Type 0) : Type 0 where
  ReadRow : (row : ℕ) → Call B V
  WriteRow : (row : ℕ) → B → Call B V
  SetRoot : V → Call B V
  GetRoot : Call B V

pub data Reply (B V : Type 0) : Type 0 where
  RowIs : B → Reply B V
  Done NoRow : Reply B V
  PayloadIs : V → Reply B V

-- WHAT CALLS AND CUTS DO TO ROWS

abbrev pub kept_cell : {B : Type 0} → Cell B → Cell B
kept_cell never = never
kept_cell unknown = unknown
kept_cell (fresh b) = kept b
kept_cell (kept b) = kept b

abbrev pub fallen_cell : {B : Type 0} → Cell B → Cell B
fallen_cell never = never
fallen_cell unknown = unknown
fallen_cell (fresh b) = unknown
fallen_cell (kept b) = kept b

abbrev pub with_cell : {B V : Type 0} → ℕ → Cell B → State B V → State B V
with_cell r c s = record { cells = put r c s.cells; payload = s.payload }

abbrev pub commit : {B V : Type 0} → V → State B V → State B V
commit v s = record { cells = λ r. kept_cell (s.cells r); payload = v }

-- a power cut: what was not committed is unknown
abbrev pub fallen : {B V : Type 0} → State B V → State B V
fallen s = record { cells = λ r. fallen_cell (s.cells r); payload = s.payload }

-- THE JUDGE, for rows that read as `zero` at first, of which there are `rows`

-- what a row reads as
pub data Reads {B : Type 0} (zero : B) : Cell B → B → Type 0 where
  zeros : Reads zero never zero
  anything : (b : B) → Reads zero unknown b
  written : (b : B) → Reads zero (fresh b) b
  committed : (b : B) → Reads zero (kept b) b

pub data Answers {B V : Type 0} (zero : B) (rows : ℕ) : Call B V → State B V → Reply B V → State B V → Type 0 where
  reads : {r : ℕ} {b : B} {s : State B V} → r < rows → Reads zero (s.cells r) b → Answers zero rows (ReadRow r) s (RowIs b) s
  writes : {r : ℕ} {b : B} {s : State B V} → r < rows → Answers zero rows (WriteRow r b) s Done (with_cell r (fresh b) s)
  sets : {v : V} {s : State B V} → Answers zero rows (SetRoot v) s Done (commit v s)
  gets : {s : State B V} → Answers zero rows GetRoot s (PayloadIs s.payload) s
  no_read : {r : ℕ} {s : State B V} → rows ≤ r → Answers zero rows (ReadRow r) s NoRow s
  no_write : {r : ℕ} {b : B} {s : State B V} → rows ≤ r → Answers zero rows (WriteRow r b) s NoRow s

-- What was cut short may not have begun. A row that was being written is unknown; a commit was done or not.
pub data CutIn {B V : Type 0} (rows : ℕ) : Call B V → State B V → State B V → Type 0 where
  undone : {c : Call B V} {s : State B V} → CutIn rows c s (fallen s)
  write_cut : {r : ℕ} {b : B} {s : State B V} → r < rows → CutIn rows (WriteRow r b) s (fallen (with_cell r unknown s))
  set_done : {v : V} {s : State B V} → CutIn rows (SetRoot v) s (fallen (commit v s))

abbrev pub blank_state : {B V : Type 0} → V → State B V
blank_state first = record { cells = λ r. never; payload = first }

abbrev pub rows_judge : {B V : Type 0} → (zero : B) → (first : V) → (rows : ℕ) → Judge (Call B V) (Reply B V)
rows_judge {B} {V} zero first rows = record { State = State B V; start = blank_state first; Answers = Answers zero rows; Down = λ s u. u ≡ fallen s; Cut = CutIn rows }

-- eight sectors of each drive are no rows; a row is eight sectors of each drive
abbrev pub rows_in : (size : ℕ) → ℕ
rows_in size = (size - 8) / 8
