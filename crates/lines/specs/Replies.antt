-- The answers as bytes: a line as a call's, with the tag of its call; an answer is its kind and its fields.
-- Assumes nothing.
use Rattle.std.specs.Prelude.{◌≡◌, ℕ, ◌+◌, Bool, true, cond, ◌&&◌, ◌||◌, List, [], ◌∷◌, length, Some, None, Option, ◌==◌, nat_le}
use Rattle.meaning.specs.Rooms.{Shown, Reply, No, Yes, Num, Got, List', Full}
use Rattle.lines.specs.Fields.{Took, ◌then◌, number, number_in}
use Rattle.lines.specs.Calls.{together, name, name_in, content, content_in, many, many_in, at_end, head_in}
use Rattle.lines.specs.Fits.{NumberFits, NameFits, ContentFits, Each}

-- what stands in a list: a key, the number of its version, and how long that is
abbrev pub entry : Shown → List ℕ
entry x = together (name x.key ∷ number 8 x.num ∷ number 8 x.size ∷ [])

abbrev pub entry_in : List ℕ → Option (Took Shown)
entry_in l = name_in l then (λ k l. number_in 8 l then (λ n l. number_in 8 l then (λ z l. Some (record { value = record { key = k; num = n; size = z }; rest = l }))))

-- THE BYTES OF AN ANSWER

abbrev pub reply_bytes : Reply → List ℕ
reply_bytes (No k) = together (number 1 0 ∷ number 1 k ∷ [])
reply_bytes Yes = together (number 1 1 ∷ [])
reply_bytes (Num n) = together (number 1 2 ∷ number 8 n ∷ [])
reply_bytes (Got n size bs) = together (number 1 3 ∷ number 8 n ∷ number 8 size ∷ content bs ∷ [])
reply_bytes (List' xs) = together (number 1 4 ∷ number 2 (length xs) ∷ many entry xs ∷ [])
reply_bytes Full = together (number 1 5 ∷ [])

-- the numbers of refusals
abbrev pub refusal : ℕ → Bool
refusal k = (nat_le 1 k && nat_le k 8) || (k == 10 || k == 12)

-- WHAT A LINE SAYS

abbrev pub no_in : List ℕ → Option Reply
no_in l = number_in 1 l then (λ k l. cond (refusal k) (at_end l (No k)) None)

abbrev pub got_in : List ℕ → Option Reply
got_in l = number_in 8 l then (λ n l. number_in 8 l then (λ size l. content_in l then (λ bs l. at_end l (Got n size bs))))

abbrev pub num_in : List ℕ → Option Reply
num_in l = number_in 8 l then (λ n l. at_end l (Num n))

abbrev pub list_in : List ℕ → Option Reply
list_in l = number_in 2 l then (λ count l. many_in entry_in count l then (λ xs l. at_end l (List' xs)))

-- by the kind
abbrev pub reply_in : ℕ → List ℕ → Option Reply
reply_in k l =
    cond (k == 0) (no_in l) (cond (k == 1) (at_end l Yes) (cond (k == 2) (num_in l)
    (cond (k == 3) (got_in l) (cond (k == 4) (list_in l) (cond (k == 5) (at_end l Full) None)))))

pub record Tagged : Type 0 where
  pub tag : ℕ
  pub reply : Reply

abbrev pub tagged : ℕ → Option Reply → Option Tagged
tagged tag None = None
tagged tag (Some r) = Some (record { tag = tag; reply = r })

-- the answer and its tag, of a line that is one
abbrev pub answer_in : List ℕ → Option Tagged
answer_in l = head_in l then (λ h l. tagged h.tag (reply_in h.kind l))

-- which answers a line can hold
abbrev pub ShownFits : Shown → Type 0
ShownFits x = NameFits x.key × NumberFits 8 x.num × NumberFits 8 x.size

abbrev pub AnswerFits : Reply → Type 0
AnswerFits (No k) = refusal k ≡ true
AnswerFits Yes = Unit {0}
AnswerFits (Num n) = NumberFits 8 n
AnswerFits (Got n size bs) = NumberFits 8 n × NumberFits 8 size × ContentFits bs
AnswerFits (List' xs) = NumberFits 2 (length xs) × Each ShownFits xs
AnswerFits Full = Unit {0}

abbrev pub ReplyFits : Reply → Type 0
ReplyFits r = AnswerFits r × NumberFits 4 (4 + length (reply_bytes r))
