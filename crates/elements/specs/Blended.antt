-- Four pieces, each times its coefficient.
-- Assumes nothing.
use Rattle.std.specs.Prelude.{ℕ, List}
use Rattle.field.specs.Field.{Row, dot, map4}
use Rattle.elements.specs.declared.four.Four.{Four}

-- the piece that four pieces give by a row of coefficients
abbrev pub blended : Row → Four → List ℕ
blended m f = map4 (dot m) f.w.now f.x.now f.y.now f.z.now
