-- Lists of bytes.
-- Assumes nothing.
use Rattle.std.specs.Prelude.{ℕ, ◌<◌, List, slice_index}

abbrev pub AreBytes : List ℕ → Type 0
AreBytes x = (k : ℕ) → slice_index x k < 256
