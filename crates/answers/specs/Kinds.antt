-- The bytes that stand for the kinds of answers.
-- Assumes nothing.
use Rattle.std.specs.Prelude.{ℕ}
use Rattle.answers.specs.declared.Kind.{Kind}
use Rattle.answers.specs.declared.Kind.TheVariants.{No, Yes, Number, Got, List, Full}

abbrev pub code_of : Kind → ℕ
code_of No = 0
code_of Yes = 1
code_of Number = 2
code_of Got = 3
code_of List = 4
code_of Full = 5
