-- What was read of a line of text.
-- Assumes nothing.
use Rattle.std.specs.Prelude.{◌≡◌, Bool, true, false, vec_len}
use Rattle.console.specs.declared.reading.Text.{Text}
use Rattle.console.specs.declared.reading.Text.TheVariants.{Line, TooLong, End}
use Rattle.console.specs.declared.reading.TextLine.{TextLine}
use Rattle.console.specs.declared.reading.Stop.{Stop}
use Rattle.console.specs.declared.reading.Stop.TheVariants.{NoRoom}

-- a text is all that is kept, and at the end of the input nothing is
abbrev pub Holds : Text → TextLine → Type 0
Holds (Line bs) l = bs.now ≡ l.text.items
Holds (TooLong bs) l = bs.now ≡ l.text.items
Holds End l = vec_len l.text ≡ 0

abbrev pub is_too_long : Text → Bool
is_too_long (TooLong bs) = true
is_too_long _ = false

abbrev pub no_room : Stop → Bool
no_room NoRoom = true
no_room _ = false
