-- The bytes that stand for kinds of calls and for refusals.
-- Assumes nothing.
use Rattle.std.specs.Prelude.{◌≡◌, ℕ, Bool, true, false, ◌&&◌, nat_le, Result, MatchResult}
use Rattle.lines.specs.declared.kinds.Unknown.{Unknown}
use Rattle.lines.specs.declared.kinds.Kind.{Kind}
use Rattle.lines.specs.declared.kinds.Kind.TheVariants.{MakeRoom, DropRoom, Put, Get, Remove, Look, Versions, Begin, Part, Complete, Abort, Hold, Rules, Time}

-- the numbers of the kinds of calls
abbrev pub is_kind : ℕ → Bool
is_kind k = nat_le 1 k && nat_le k 14

abbrev pub code_of : Kind → ℕ
code_of MakeRoom = 1
code_of DropRoom = 2
code_of Put = 3
code_of Get = 4
code_of Remove = 5
code_of Look = 6
code_of Versions = 7
code_of Begin = 8
code_of Part = 9
code_of Complete = 10
code_of Abort = 11
code_of Hold = 12
code_of Rules = 13
code_of Time = 14

-- the value that a number stands for, or, where it stands for none, the number
abbrev pub Decodes : {A : Type 0} → (A → ℕ) → (ℕ → Bool) → ℕ → Result A Unknown → Type 0
Decodes number known n r = MatchResult r (λ a. (number a ≡ n) × (known n ≡ true)) (λ e. (e.0 ≡ n) × (known n ≡ false))
