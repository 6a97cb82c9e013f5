-- The theorem at whatever rows and payloads are given.
-- Assumes nothing.
use Rattle.rows.proofs.Laws.{rows_stay}
use Rattle.rows.proofs.committed_rows_stay.Goals as goal

pub returns : goal.returns
returns g c = rows_stay g.S.RowKinds.kinds
