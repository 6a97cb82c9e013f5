-- A line is answered as what is heard of it.
-- Assumes nothing.
use Rattle.std.proofs.Common.{◌≡◌, ℕ, List, sym, ap, ◌∙◌, subst}
use Rattle.drives.specs.Drives.{Drives, Io, answer, run, Ran}
use Rattle.drives.proofs.Programs.{run_then}
use Rattle.steps.specs.Steps.{Held, Stepping, first, runs, machine_of}
use Rattle.steps.specs.Stacks.{stack_of}
use Rattle.steps.specs.declared.Stack.{Stack}
use Rattle.driver.specs.Loops.{Leaves}
use Rattle.register.specs.declared.Call.{Call}
use Rattle.register.specs.declared.Reply.{Reply}
use Rattle.clock.specs.declared.Asked.{Asked}
use Rattle.clock.specs.declared.Clock.{Clock}
use Rattle.clock.specs.declared.Told.{Told}
use Rattle.clock.specs.Clock.{clock_code}
use Rattle.clock.specs.Spelled.{asked_in, told_bytes, line_code}

module _ {L : Type 0} (s : Stepping Call Reply L) where
  abbrev Mem : Type 0
  Mem = Held (Stack Clock L)

  -- what was begun, run to its end
  abbrev whole : ℕ → Asked → Mem → Io Mem
  whole b c h = runs (stack_of clock_code s).steps b (first (stack_of clock_code s) ((stack_of clock_code s).starts c h.me) h.lent)

  abbrev spelt : Ran (record { reply : Told; mem : Mem }) → Ran (record { reply : List ℕ; mem : Mem })
  spelt x = record { value = record { reply = told_bytes x.value.reply; mem = x.value.mem }; drives = x.drives }

  pub line_leaves : (longest b : ℕ) (l : List ℕ) (a : Asked) (h g : Mem) (r : Told) (d e : Drives) → a ≡ asked_in longest l h.me.upper.time →
      Leaves ((machine_of (stack_of clock_code s) b).does a h) d (record { reply = r; mem = g }) e →
      Leaves ((machine_of (stack_of (line_code longest) s) b).does l h) d (record { reply = told_bytes r; mem = g }) e
  unfolding run
  line_leaves longest b l a h g r d e q p =
      let w = whole b (asked_in longest l h.me.upper.time) h in
      let p' = subst (λ (c : Asked). Leaves ((machine_of (stack_of clock_code s) b).does c h) d (record { reply = r; mem = g }) e) q p in
      run_then w (λ x. answer (record { reply = told_bytes (clock_code.says x.me.upper); mem = x })) d
      ∙ ap spelt (sym (run_then w (λ x. answer (record { reply = clock_code.says x.me.upper; mem = x })) d) ∙ p')
