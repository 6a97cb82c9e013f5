-- What is written is read again, and what is read was written so: no other line is a call or an answer.
-- Assumes nothing.
use Rattle.std.specs.Prelude.{◌≡◌, ℕ, List, Some}
use Rattle.meaning.specs.Rooms.{Call, Reply}
use Rattle.lines.specs.Calls.{call_bytes, line_of, call_in}
use Rattle.lines.specs.Fits.{Bytes, NumberFits, CallFits}
use Rattle.lines.specs.Order.{tag_of}
use Rattle.lines.specs.Replies.{Tagged, reply_bytes, answer_in, ReplyFits}

-- a call that a line can hold is read off its line
abbrev pub CallsAreRead : Type 0
CallsAreRead = (tag : ℕ) (c : Call) → NumberFits 4 tag → CallFits c → call_in (line_of tag (call_bytes c)) ≡ Some c

-- a line that is read as a call is the line of that call, to the byte
abbrev pub CallsWereWritten : Type 0
CallsWereWritten = (l : List ℕ) (c : Call) → Bytes l → call_in l ≡ Some c → (l ≡ line_of (tag_of l) (call_bytes c)) × NumberFits 4 (tag_of l) × CallFits c

abbrev pub AnswersAreRead : Type 0
AnswersAreRead = (tag : ℕ) (r : Reply) → NumberFits 4 tag → ReplyFits r → answer_in (line_of tag (reply_bytes r)) ≡ Some (record { tag = tag; reply = r })

abbrev pub AnswersWereWritten : Type 0
AnswersWereWritten = (l : List ℕ) (t : Tagged) → Bytes l → answer_in l ≡ Some t → (l ≡ line_of t.tag (reply_bytes t.reply)) × (tag_of l ≡ t.tag) × NumberFits 4 t.tag × ReplyFits t.reply
