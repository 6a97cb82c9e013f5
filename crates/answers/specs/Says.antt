-- What the code's answers say, whose bytes are parts of a line.
-- Assumes nothing.
use Rattle.std.specs.Prelude.{ℕ, ◌+◌, Bool, true, ◌&&◌, length, Option, nat_lt}
use Rattle.std.specs.Option.{option_map}
use Rattle.meaning.specs.Rooms as meaning
use Rattle.lines.specs.Calls.{are_many, all_in}
use Rattle.lines.specs.Replies.{entry_in, reply_bytes, Tagged}
use Rattle.lines.specs.Turns.{number_of}
use Rattle.answers.specs.declared.Entry.{Entry}
use Rattle.answers.specs.declared.Answer.{Answer}
use Rattle.answers.specs.declared.Answer.TheVariants.{No, Yes, Number, Got, List as Listing, Full}

abbrev pub shows : Entry → meaning.Shown
shows x = record { key = x.key.now; num = x.number; size = x.length }

abbrev pub says : Answer → meaning.Reply
says (No e) = meaning.No (number_of e)
says Yes = meaning.Yes
says (Number n) = meaning.Num n
says (Got n size bs) = meaning.Got n size bs.now
says (Listing count es) = meaning.List' (all_in entry_in count es.now)
says Full = meaning.Full

-- a list's entries are as many as it says
abbrev pub sound : Answer → Bool
sound (No e) = true
sound Yes = true
sound (Number n) = true
sound (Got n size bs) = true
sound (Listing count es) = are_many entry_in count es.now
sound Full = true

-- can a line hold it
abbrev pub fits : Answer → Bool
fits a = sound a && nat_lt (4 + length (reply_bytes (says a))) 4294967296

abbrev pub saying : Option Answer → Option meaning.Reply
saying o = option_map says o

abbrev pub said : Option (ℕ × Answer) → Option Tagged
said o = option_map (λ p. record { tag = p.0; reply = says p.1 }) o
