-- A machine that copies one sector: what its code does, and the same to be read.
-- Assumes nothing.
use Rattle.std.specs.Prelude.{ℕ, Bool, true, false, cond, List, length, ◌==◌}
use Rattle.drives.specs.Drives.{answer, read, write, sync}
use Rattle.drives.specs.Machines.{Machine}
use Rattle.steps.specs.Steps.{Held, Stepped, Stepping, Ample, placed}
use Rattle.steps.specs.declared.Lent.{Lent}
use Rattle.steps.specs.declared.Ask.{Ask}
use Rattle.steps.specs.declared.Ask.TheVariants.{Read, Write, Sync, Done}
use Rattle.echo.specs.declared.Echo.{Echo}
use Rattle.echo.specs.declared.Phase.{Phase}
use Rattle.echo.specs.declared.Phase.TheVariants.{Begun, Reading, Writing, Syncing, Over}

abbrev pub goes : ℕ → Phase → Lent → Ask → Stepped Echo
goes s p lent a = record { me = record { sector = s; phase = p }; lent = lent; ask = a }

abbrev pub step_in : Phase → ℕ → Lent → List ℕ → Stepped Echo
step_in Begun s lent got = goes s Reading lent (Read 0 s)
step_in Reading s lent got = cond (length got == 512) (goes s Writing (placed 0 got lent) (Write 1 s 0)) (goes s (Over false) lent Done)
step_in Writing s lent got = goes s Syncing lent (Sync 1)
step_in Syncing s lent got = goes s (Over true) lent Done
step_in (Over ok) s lent got = goes s (Over ok) lent Done

abbrev pub said_in : Phase → Bool
said_in (Over ok) = ok
said_in p = false

abbrev pub echo_code : Stepping ℕ Bool Echo
echo_code =
    record {
      steps = λ h got. step_in h.me.phase h.me.sector h.lent got;
      opening = λ size. record { sector = 0; phase = Over false };
      starts = λ c e. record { sector = c; phase = Begun };
      mending = λ e. record { sector = e.sector; phase = Over true };
      says = λ e. said_in e.phase;
      whole = λ e. true;
    }

-- THE MACHINE, to be read
abbrev pub echoes : Machine ℕ Bool
echoes =
    record {
      Mem = Unit {0};
      opens = λ size. answer tt;
      does = λ s m. read 0 s (λ b. cond (length b == 512) (write 1 s b (sync 1 (answer (record { reply = true; mem = tt })))) (answer (record { reply = false; mem = tt })));
      mends = λ m. answer (record { whole = true; mem = tt });
    }

abbrev pub EchoSame : ℕ → Held Echo → Unit {0} → Type 0
EchoSame size h m = Ample h.lent
