-- What is said of pieces that are refused.
-- Assumes nothing.
use Rattle.std.specs.Prelude.{ℕ, List, codes}
use Rattle.pieces.specs.declared.held.Refused.{Refused}
use Rattle.pieces.specs.declared.held.Refused.TheVariants.{Places, NoSuchPlace, Lengths}

abbrev pub told : Refused → List ℕ
told Places = codes "the places of the pieces do not rise, or one is above 5"
told NoSuchPlace = codes "the place that is wanted is above 5"
told Lengths = codes "the pieces are not of one length"
