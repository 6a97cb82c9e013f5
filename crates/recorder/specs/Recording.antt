-- The root record in code: what its steps do, and the machine that they are, with the calls of a register.
-- Assumes nothing.
use Rattle.std.specs.Option.{option_or}
use Rattle.std.specs.Prelude.{◌≡◌, ℕ, ◌-◌, ◌≤◌, Bool, true, false, cond, List, [], ◌∷◌, map, replicate, ◌==◌, slice_index_or, slice_set, Option, None, Some, unwrap_or}
use Rattle.drives.specs.Machines.{Machine, Keeps, Within}
use Rattle.drives.specs.Layers.{gives, asks, Layer, over}
use Rattle.register.specs.declared.Payload.{Payload}
use Rattle.register.specs.declared.Call.{Call}
use Rattle.register.specs.declared.Call.TheVariants.{Set, Get}
use Rattle.register.specs.declared.Reply.{Reply}
use Rattle.register.specs.declared.Reply.TheVariants as reply
use Rattle.register.specs.Register.{none, kept, register}
use Rattle.root.specs.Root as root
use Rattle.labels.specs.declared.Label.{Label}
use Rattle.labels.specs.declared.Label.TheVariants as label
use Rattle.labels.specs.Times.{Time, time_of, timed, label_in, label_bytes, trusts, committed_on, record_as}
use Rattle.mending.specs.Stretches.{stretch_of}
use Rattle.steps.specs.Steps.{Held, Stepped, Stepping, Ample, placed, machine_of}
use Rattle.steps.specs.declared.Lent.{Lent}
use Rattle.steps.specs.declared.Ask.{Ask}
use Rattle.steps.specs.declared.Ask.TheVariants.{Read, Write, Sync, Again, Done}
use Rattle.recorder.specs.declared.Drives.{Drives}
use Rattle.recorder.specs.declared.Task.{Task}
use Rattle.recorder.specs.declared.Task.TheVariants.{Opens, Sets, Gets, Mends}
use Rattle.recorder.specs.declared.Phase.{Phase}
use Rattle.recorder.specs.declared.Phase.TheVariants.{Begun, Reading, Writing, Syncing, Over}
use Rattle.recorder.specs.declared.Recorder.{Recorder}

-- THE STEPS

abbrev pub moved : Phase → Recorder → Recorder
moved p r = record { current = r.current; task = r.task; phase = p }

abbrev pub noted : Drives → ℕ → Label → Drives
noted d i l = record { seen = slice_set d.seen i l }

abbrev pub unseen : Drives
unseen = record { seen = replicate 6 label.Missing }

-- the record that is committed on the lowest drive, if any is
abbrev pub lowest_in : List Label → Option Payload
lowest_in [] = None
lowest_in (l ∷ ls) = option_or (committed_on l) (lowest_in ls)

-- where nothing is committed, every drive is told so
abbrev pub gets_at_first : Option Payload → List Label → List Bool
gets_at_first None ls = replicate 6 true
gets_at_first (Some p) ls = map trusts ls

-- once all labels are read: the record that is to be written, and which drives get it
abbrev pub decided : Task → Drives → Recorder → Recorder
decided Opens d r = record { current = lowest_in d.seen; task = r.task; phase = Writing 6 (gets_at_first (lowest_in d.seen) d.seen) }
decided (Sets p) d r = record { current = Some p; task = r.task; phase = Writing 6 (map trusts d.seen) }
decided Gets d r = moved Over r
decided Mends d r = moved (Writing 6 (stretch_of d.seen).fills) r

abbrev pub goes : Recorder → Lent → Ask → Stepped Recorder
goes r lent a = record { me = r; lent = lent; ask = a }

-- all labels are to be read, whatever was seen before
abbrev pub read_all : Recorder → Lent → Stepped Recorder
read_all r lent = goes (moved (Reading 5 unseen) r) lent (Read 5 0)

-- the label of drive i has come
abbrev pub read_on : ℕ → Drives → Recorder → Lent → Label → Stepped Recorder
read_on i d r lent l =
    cond (i == 0)
    (goes (decided r.task (noted d i l) r) lent Again)
    (goes (moved (Reading (i - 1) (noted d i l)) r) lent (Read (i - 1) 0))

-- the drives below n are still to be written to, if they get the record
abbrev pub write_on : ℕ → List Bool → Recorder → Lent → Stepped Recorder
write_on n gets r lent =
    cond (n == 0)
    (goes (moved (Syncing 6) r) lent Again)
    (cond (slice_index_or gets (n - 1) false)
    (goes (moved (Writing (n - 1) gets) r) (placed 0 (label_bytes r.current) lent) (Write (n - 1) 0 0))
    (goes (moved (Writing (n - 1) gets) r) lent Again))

-- the drives below n are still to be synced
abbrev pub sync_on : ℕ → Recorder → Lent → Stepped Recorder
sync_on n r lent =
    cond (n == 0)
    (goes (moved Over r) lent Done)
    (goes (moved (Syncing (n - 1)) r) lent (Sync (n - 1)))

abbrev pub step_in : Phase → Recorder → Lent → List ℕ → Stepped Recorder
step_in Begun r lent got = read_all r lent
step_in (Reading i d) r lent got = read_on i d r lent (label_in got)
step_in (Writing n gets) r lent got = write_on n gets r lent
step_in (Syncing n) r lent got = sync_on n r lent
step_in Over r lent got = goes r lent Done

abbrev pub starts_on : Call → Recorder → Recorder
starts_on (Set p) r = record { current = r.current; task = Sets (kept p); phase = Begun }
starts_on Get r = record { current = r.current; task = Gets; phase = Over }

abbrev pub said_by : Task → Option Payload → Reply
said_by Opens c = reply.Done
said_by (Sets p) c = reply.Done
said_by Gets c = reply.Is (unwrap_or c none)
said_by Mends c = reply.Done

abbrev pub fresh : Recorder
fresh = record { current = None; task = Opens; phase = Begun }

abbrev pub recorder_code : Stepping Call Reply Recorder
recorder_code =
    record {
      steps = λ h got. step_in h.me.phase h.me h.lent got;
      opening = λ size. fresh;
      starts = starts_on;
      mending = λ r. record { current = r.current; task = Mends; phase = Begun };
      says = λ r. said_by r.task r.current;
      whole = λ r. true;
    }

-- THE MACHINE, to be read: the root record, with the calls of a register

abbrev pub call_for : Call → root.Call Time
call_for (Set p) = root.Set (time_of p.time)
call_for Get = root.Get

abbrev pub reply_as : root.Reply Time → Reply
reply_as root.Done = reply.Done
reply_as (root.Payload t) = reply.Is (record { time = t.ms })

abbrev pub spelling : Layer (root.Call Time) (root.Reply Time) Call Reply
spelling = record { Mem = Unit {0}; comes_up = λ size. gives tt; answers = λ c m. asks (call_for c) (λ r. gives (record { reply = reply_as r; mem = tt })) }

abbrev pub recorded : Machine Call Reply
recorded = over (root.machine timed) spelling

-- the code has the record that the machine has; what is lent is all there
abbrev pub RecorderSame : ℕ → Held Recorder → recorded.Mem → Type 0
RecorderSame size h m = (h.me.current ≡ record_as m.below) × Ample h.lent

-- how many requests are enough: 18 of the drives, and three steps that ask for nothing
abbrev pub budget : ℕ
budget = 21

-- THE RECORDER STANDS: in code, what was set is got, whatever happens and whatever becomes of two drives.
abbrev pub RecorderStands : Type 0
RecorderStands = (n : ℕ) → budget ≤ n → Keeps register (machine_of recorder_code n) × Within (machine_of recorder_code n)
