-- Lines of text, and what they are: the commands of both programs.
-- Assumes nothing.
use Rattle.std.specs.Prelude.{◌≡◌, ℕ, ◌-◌, ◌<◌, ◌≤◌, Bool, true, false, cond, List, [], length, take, drop, codes, ◌==◌, slice_index}
use Rattle.std.specs.Str.{bytes_eq}
use Rattle.std.specs.Char.{is_ascii_whitespace}
use Rattle.console.specs.Hex.{line_of, Lays, number_of}
use Rattle.console.specs.declared.Command.{Command}
use Rattle.console.specs.declared.Command.TheVariants.{Blank, Hex, Time, Mend, Status, Help, Other}
use Rattle.console.specs.declared.Input.{Input}
use Rattle.console.specs.declared.Input.TheVariants.{Nothing, Line, Tells, Mends, Asks, Helps}

-- the text without the white space at its end
abbrev pub Trims : List ℕ → List ℕ → Type 0
Trims text t =
    (n : ℕ) × (t ≡ take n text) × (length t ≡ n) × (n ≤ length text) × ((i : ℕ) → n ≤ i → i < length text → is_ascii_whitespace (slice_index text i) ≡ true) × (0 < n → is_ascii_whitespace (slice_index text (n - 1)) ≡ false)

-- the first bytes of t are those of w
abbrev pub begins_with : List ℕ → List ℕ → Bool
begins_with w t = bytes_eq (take (length w) t) w

abbrev pub is_word : List ℕ → List ℕ → Bool
is_word t w = bytes_eq t w

-- what a line of text is; digits are what follows the word
pub data Said : Type 0 where
  blank mend status help other : Said
  hex time : List ℕ → Said

-- a word with what follows it
abbrev pub said_with_digits : List ℕ → Said
said_with_digits t =
    cond (begins_with (codes "in ") t) (hex (drop 3 t))
    (cond (begins_with (codes "time ") t) (time (drop 5 t)) other)

abbrev pub said_of : List ℕ → Said
said_of t =
    cond (length t == 0) blank
    (cond (is_word t (codes "mend")) mend
    (cond (is_word t (codes "status")) status
    (cond (is_word t (codes "help")) help
    (cond (is_word t (codes "in")) (hex [])
    (said_with_digits t)))))

abbrev pub says : Command → Said
says Blank = blank
says (Hex ds) = hex ds.now
says (Time ds) = time ds.now
says Mend = mend
says Status = status
says Help = help
says Other = other

-- what a line of text comes to; text that is no command is the empty line of bytes, which is no call
abbrev pub Means : Said → List ℕ → List ℕ → Input → Type 0
Means blank before after r = (r ≡ Nothing) × (after ≡ before)
Means mend before after r = (r ≡ Mends) × (after ≡ before)
Means status before after r = (r ≡ Asks) × (after ≡ before)
Means help before after r = (r ≡ Helps) × (after ≡ before)
Means other before after r = (r ≡ Line 0) × (after ≡ before)
Means (hex ds) before after r = (n : ℕ) × (r ≡ Line n) × Lays (line_of ds) before after n
Means (time ds) before after r = (r ≡ Tells (number_of ds)) × (after ≡ before)

-- a line that was laid in the buffer is within it
abbrev pub IsWithin : Input → ℕ → Type 0
IsWithin (Line n) room = n ≤ room
IsWithin _ room = Unit {0}
