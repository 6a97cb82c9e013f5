use Rattle.std.proofs.Common.{◌≡◌, true, drop}
use Rattle.meaning.specs.Lists.{every}
use Rattle.fills.specs.declared.Writer.{Writer}
use Rattle.fills.specs.Fills.{HasRoom, Puts, body_bytes, field_fits}
use Rattle.fills.proofs.Writer.put_fields.Given as goal

-- whoever puts what is left has put all
abbrev pub invariant-loop-field : goal.invariant-loop-field
invariant-loop-field l =
    ((w : Writer) → Puts (body_bytes (drop l.field-index l.fields)) l.self w → Puts (body_bytes l.fields) l.initial.self w)
    × HasRoom (body_bytes (drop l.field-index l.fields)) l.self
    × (every field_fits (drop l.field-index l.fields) ≡ true)
