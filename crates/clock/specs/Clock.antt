-- The clock: a layer that tells and keeps the time, over a register. First as a plan to be read, then as its code does it.
-- Assumes nothing.
use Rattle.std.specs.Prelude.{◌≡◌, ℕ, Bool, true, false, cond, ◌&&◌, Some, None, Ok, Err, Option, Result, nat_lt}
use Rattle.drives.specs.Layers.{Plan, gives, asks, Layer}
use Rattle.steps.specs.Stacks.{Asked as Wants, Planning}
use Rattle.register.specs.declared.Call.{Call}
use Rattle.register.specs.declared.Call.TheVariants.{Set, Get}
use Rattle.register.specs.declared.Reply.{Reply}
use Rattle.register.specs.declared.Reply.TheVariants.{Done, Is}
use Rattle.meaning.specs.Does.{small, later}
use Rattle.lines.specs.declared.order.Refusal.{Refusal}
use Rattle.lines.specs.declared.order.Refusal.TheVariants.{Wrong}
use Rattle.clock.specs.declared.Asked.{Asked}
use Rattle.clock.specs.declared.Told.{Told}
use Rattle.clock.specs.declared.Phase.{Phase}
use Rattle.clock.specs.declared.Phase.TheVariants.{Rising, Getting, Begun, Setting, Over}
use Rattle.clock.specs.declared.Clock.{Clock}

-- TO BE READ. It keeps the time that was last told in memory.

abbrev pub Spoken : Type 0
Spoken = record { reply : Told; mem : ℕ }

abbrev pub says : ℕ → Result Unit Refusal → ℕ → Plan Call Reply Spoken
says tag x m = gives (record { reply = record { tag = tag; said = x }; mem = m })

-- a time in range is kept, if it is later, and answered once it is
abbrev pub tells_if : (in_range : Bool) → (tag t m : ℕ) → Plan Call Reply Spoken
tells_if true tag t m = asks (Set (record { time = later t m })) (λ r. says tag (Ok tt) (later t m))
tells_if false tag t m = says tag (Err Wrong) m

abbrev pub answers_to : Result ℕ Refusal → (tag m : ℕ) → Plan Call Reply Spoken
answers_to (Err why) tag m = says tag (Err why) m
answers_to (Ok t) tag m = tells_if (small t && nat_lt 0 t) tag t m

abbrev pub time_in : Reply → ℕ
time_in Done = 0
time_in (Is p) = p.time

abbrev pub spoken : Layer Call Reply Asked Told
spoken =
    record {
      Mem = ℕ;
      comes_up = λ size. asks Get (λ r. gives (time_in r));
      answers = λ c m. answers_to c.heard c.tag m;
    }

-- AS THE CODE DOES IT

abbrev pub goes : (time tag : ℕ) → Phase → Option Call → Wants Clock Call
goes time tag p n = record { me = record { time = time; tag = tag; phase = p }; next = n }

abbrev pub got_in : Option Reply → ℕ
got_in None = 0
got_in (Some r) = time_in r

-- the time to be kept once this was heard: one in range, if it is later
abbrev pub time_kept : Result ℕ Refusal → (time : ℕ) → Result ℕ Refusal
time_kept (Err why) time = Err why
time_kept (Ok t) time = cond (small t && nat_lt 0 t) (Ok (later t time)) (Err Wrong)

-- and the register is asked to keep it
abbrev pub keeps : Result ℕ Refusal → (time tag : ℕ) → Wants Clock Call
keeps (Err why) time tag = goes time tag (Over (Err why)) None
keeps (Ok t) time tag = goes time tag (Setting t) (Some (Set (record { time = t })))

abbrev pub turn_in : Phase → (time tag : ℕ) → Option Reply → Wants Clock Call
turn_in Rising time tag r = goes time tag Getting (Some Get)
turn_in Getting time tag r = goes (got_in r) tag (Over (Ok tt)) None
turn_in (Begun h) time tag r = keeps (time_kept h time) time tag
turn_in (Setting t) time tag r = goes t tag (Over (Ok tt)) None
turn_in (Over x) time tag r = goes time tag (Over x) None

abbrev pub said_in : Phase → Result Unit Refusal
said_in (Over x) = x
said_in p = Ok tt

abbrev pub clock_code : Planning Call Reply Asked Told Clock
clock_code =
    record {
      turns = λ u r. turn_in u.phase u.time u.tag r;
      rising = λ size. record { time = 0; tag = 0; phase = Rising };
      starts = λ c u. record { time = u.time; tag = c.tag; phase = Begun c.heard };
      says = λ u. record { tag = u.tag; said = said_in u.phase };
    }

-- the time in memory is the one of the plan
abbrev pub ClockSame : ℕ → Clock → ℕ → Type 0
ClockSame size u m = u.time ≡ m
