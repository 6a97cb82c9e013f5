-- A register: one payload, which is kept whatever happens. It is the judge between the root record and what is built on it.
-- Assumes nothing.
use Rattle.std.specs.Prelude.{ℕ, ◌%◌}
use Rattle.drives.specs.Machines.{Judge, atomic}
use Rattle.register.specs.declared.Payload.{Payload}
use Rattle.register.specs.declared.Call.{Call}
use Rattle.register.specs.declared.Call.TheVariants.{Set, Get}
use Rattle.register.specs.declared.Reply.{Reply}
use Rattle.register.specs.declared.Reply.TheVariants.{Done, Is}

-- the payload at first: no time was told
abbrev pub none : Payload
none = record { time = 0 }

-- a payload as eight bytes hold it
abbrev pub kept : Payload → Payload
kept p = record { time = p.time % 18446744073709551616 }

pub data Answers : Call → Payload → Reply → Payload → Type 0 where
  sets : (p s : Payload) → Answers (Set p) s Done (kept p)
  gets : (s : Payload) → Answers Get s (Is s) s

-- what was set is got; a call cut short was done or not, and a cut changes nothing else
abbrev pub register : ℕ → Judge Call Reply
register size = atomic Payload none Answers (λ s. s)
