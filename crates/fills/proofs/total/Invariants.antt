use Rattle.std.proofs.Common.{◌≡◌, ◌<◌, drop}
use Rattle.fills.specs.Fills.{sized}
use Rattle.fills.proofs.total.Given as goal

-- what is left decides
abbrev pub invariant-loop-field : goal.invariant-loop-field
invariant-loop-field l = (sized l.total (drop l.field-index l.fields) ≡ sized 4 l.fields) × (l.total < 4294967296)
