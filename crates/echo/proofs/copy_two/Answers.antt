use Rattle.std.proofs.Common.{arith}
use Rattle.echo.proofs.copy_two.Goals as goal

pub returns : goal.returns
returns g c = λ ample k. let (k', (same, drives)) = c.call.ensures.read 8192 (record { below = tt; above = tt }) (omega arith) (omega arith) (omega arith) (ample, tt) k in (k', (same.0, drives))
