-- What is written to the front of a buffer.
-- Assumes nothing.
use Rattle.std.specs.Prelude.{◌≡◌, ℕ, ◌+◌, ◌≤◌, Bool, true, cond, ◌&&◌, List, ◌++◌, length, take, drop, Some, None, Option, nat_le, nat_lt}
use Rattle.meaning.specs.Lists.{every}
use Rattle.lines.specs.Fields.{number}
use Rattle.lines.specs.Calls.{flag, expected, name, content, many}
use Rattle.lines.specs.Means.{expects}
use Rattle.fills.specs.declared.Field.{Field}
use Rattle.fills.specs.declared.Writer.{Writer}
use Rattle.fills.specs.declared.Field.TheVariants.{U8, U16, U32, U64, Flag, Expects, Name, Content, Plain}

abbrev pub field_bytes : Field → List ℕ
field_bytes (U8 n) = number 1 n
field_bytes (U16 n) = number 2 n
field_bytes (U32 n) = number 4 n
field_bytes (U64 n) = number 8 n
field_bytes (Flag b) = flag b
field_bytes (Expects x) = expected (expects x)
field_bytes (Name bs) = name bs.now
field_bytes (Content bs) = content bs.now
field_bytes (Plain bs) = bs.now

-- is its length one that its count can say
abbrev pub field_fits : Field → Bool
field_fits (U8 n) = true
field_fits (U16 n) = true
field_fits (U32 n) = true
field_fits (U64 n) = true
field_fits (Flag b) = true
field_fits (Expects x) = true
field_fits (Name bs) = nat_lt (length bs.now) 256
field_fits (Content bs) = nat_lt (length bs.now) 4294967296
field_fits (Plain bs) = nat_lt (length bs.now) 4294967296

abbrev pub body_bytes : List Field → List ℕ
body_bytes fs = many field_bytes fs

-- what comes to n with these fields, if all of it can be said in four bytes
abbrev pub sized : ℕ → List Field → Option ℕ
sized n fs = cond (every field_fits fs && nat_lt (n + length (body_bytes fs)) 4294967296) (Some (n + length (body_bytes fs))) None

-- can a line hold these fields; its length counts the tag too
abbrev pub line_fits : List Field → Bool
line_fits fs = every field_fits fs && nat_lt (4 + length (body_bytes fs)) 4294967296

-- these bytes from a place on, and all else as it was
unfoldable pub put_at : ℕ → List ℕ → List ℕ → List ℕ
put_at at bs out = take at out ++ (bs ++ drop (at + length bs) out)

abbrev pub HasRoom : List ℕ → Writer → Type 0
HasRoom bs w = w.at + length bs ≤ length w.out.now

-- the bytes stand from the writer's place on, and it is behind them, in the same buffer
pub record Puts (bs : List ℕ) (before after : Writer) : Type 0 where
  pub same : after.out.ghost_name ≡ before.out.ghost_name
  pub as_long : length after.out.now ≡ length before.out.now
  pub at_is : after.at ≡ before.at + length bs
  pub out_is : after.out.now ≡ put_at before.at bs before.out.now

-- where this line can be one and there is room for it, it is written to the front and its length told; else nothing is changed
pub record Wrote (fits : Bool) (line out : List ℕ) (told : Option ℕ) (after : List ℕ) : Type 0 where
  pub told_is : told ≡ cond (fits && nat_le (length line) (length out)) (Some (length line)) None
  pub after_is : after ≡ cond (fits && nat_le (length line) (length out)) (line ++ drop (length line) out) out

-- the same of bytes that go after what stands before a place
pub record Added (fits : Bool) (at : ℕ) (bs out : List ℕ) (told : Option ℕ) (after : List ℕ) : Type 0 where
  pub told_is : told ≡ cond (fits && nat_le (at + length bs) (length out)) (Some (at + length bs)) None
  pub after_is : after ≡ cond (fits && nat_le (at + length bs) (length out)) (put_at at bs out) out
