-- What the loop does that runs steps on drives.
-- Assumes nothing.
use Rattle.std.specs.Prelude.{◌≡◌, ℕ, List, []}
use Rattle.drives.specs.Drives.{Drives, shown, put, written_to, synced_one, Io, run}
use Rattle.steps.specs.Steps.{Held, Stepped, sector_at}
use Rattle.steps.specs.declared.Lent.{Lent}
use Rattle.steps.specs.declared.Ask.{Ask}
use Rattle.steps.specs.declared.Ask.TheVariants.{Read, Write, Sync, Again, Done}
use Rattle.driver.specs.declared.Running.{Running}

-- what a running machine holds, where `view` says what state it is in
abbrev pub held_by : {A M : Type 0} → (A → M) → Running A → Held M
held_by view r = record { me = view r.machine; lent = r.lent }

-- what a request gave, and the drives after it
pub record Performed : Type 0 where
  pub got : List ℕ
  pub drives : Drives

abbrev pub performed : Ask → Lent → Drives → Performed
performed (Read i s) lent d = record { got = shown (d i) s; drives = d }
performed (Write i s at) lent d = record { got = []; drives = put i (written_to s (sector_at at lent) (d i)) d }
performed (Sync i) lent d = record { got = []; drives = put i (synced_one (d i)) d }
performed Again lent d = record { got = []; drives = d }
performed Done lent d = record { got = []; drives = d }

-- what the step f comes to that is taken from h once a request is carried out, and the drives then
pub record Advanced (M : Type 0) : Type 0 where
  pub after : Stepped M
  pub drives : Drives

abbrev pub stepped : {M : Type 0} → (Held M → List ℕ → Stepped M) → Held M → Performed → Advanced M
stepped f h p = record { after = f h p.got; drives = p.drives }

-- the program p, run on d, answers a and leaves e
abbrev pub Leaves : {A : Type 0} → Io A → Drives → A → Drives → Type 0
Leaves p d a e = run p d ≡ record { value = a; drives = e }

-- the program p, run on d, answers what V allows and leaves e
abbrev pub Ends : {A : Type 0} → (A → Type 0) → Io A → Drives → Drives → Type 0
Ends V p d e = V (run p d).value × ((run p d).drives ≡ e)
