-- What the steps of a machine in code come to: a machine of programs that use drives.
-- Assumes nothing.
use Rattle.std.specs.Prelude.{◌≡◌, ℕ, zero, suc, ◌+◌, min, Bool, cond, List, [], ◌++◌, length, take, drop, replicate, ◌==◌}
use Rattle.drives.specs.Drives.{Io, answer, read, write, sync, then'}
use Rattle.drives.specs.Machines.{Machine}
use Rattle.steps.specs.declared.Lent.{Lent}
use Rattle.steps.specs.declared.Ask.{Ask}
use Rattle.steps.specs.declared.Ask.TheVariants.{Read, Write, Sync, Again, Done}

-- the state of a machine, with the memory that is lent to it
pub record Held (M : Type 0) : Type 0 where
  pub me : M
  pub lent : Lent

-- and with what it asks for
pub record Stepped (M : Type 0) : Type 0 where
  pub me : M
  pub lent : Lent
  pub ask : Ask

abbrev pub held : {M : Type 0} → Stepped M → Held M
held x = record { me = x.me; lent = x.lent }

-- what the code of a machine does, function by function, to a state M
pub record Stepping (C R M : Type 0) : Type 0 where
  pub steps : Held M → List ℕ → Stepped M
  pub opening : (size : ℕ) → M
  pub starts : C → M → M
  pub mending : M → M
  pub says : M → R
  pub whole : M → Bool

-- lent memory as it is at first
abbrev pub unused : Lent
unused = record { bytes = replicate 4096 0 }

-- all of it is there; a machine that reads back what it put there says so of what it holds between calls
abbrev pub Ample : Lent → Type 0
Ample lent = length lent.bytes ≡ 4096

-- the sector that a request to write means
abbrev pub sector_at : ℕ → Lent → List ℕ
sector_at at lent = take 512 (drop (min at 3584) lent.bytes)

-- a sector put where a request to write means it; what is no sector is left out
abbrev pub placed : ℕ → List ℕ → Lent → Lent
placed at got lent =
    cond (length got == 512)
    (record { bytes = take (min at 3584) lent.bytes ++ (got ++ drop (min at 3584 + 512) lent.bytes) })
    lent

-- one request, and how it goes on
abbrev pub performs : {A : Type 0} → Ask → Lent → (List ℕ → Io A) → A → Io A
performs (Read i s) lent k a = read i s k
performs (Write i s at) lent k a = write i s (sector_at at lent) (k [])
performs (Sync i) lent k a = sync i (k [])
performs Again lent k a = k []
performs Done lent k a = answer a

-- from a step on, with at most n requests
unfoldable pub runs : {M : Type 0} → (Held M → List ℕ → Stepped M) → ℕ → Stepped M → Io (Held M)
runs f zero x = answer (held x)
runs f (suc n) x = performs x.ask x.lent (λ got. runs f n (f (held x) got)) (held x)

module _ {C R M : Type 0} (s : Stepping C R M) where
  -- the first step of what was begun
  abbrev pub first : M → Lent → Stepped M
  first me lent = s.steps (record { me = me; lent = lent }) []

  -- THE MACHINE OF THE CODE: what was begun, and then its steps, with at most n requests each time.
  -- What it keeps in memory is its state and the lent memory, whatever that holds.
  abbrev pub machine_of : ℕ → Machine C R
  machine_of n =
      record {
        Mem = Held M;
        opens = λ size. runs s.steps n (first (s.opening size) unused);
        does = λ c h. then' (runs s.steps n (first (s.starts c h.me) h.lent)) (λ g. answer (record { reply = s.says g.me; mem = g }));
        mends = λ h. then' (runs s.steps n (first (s.mending h.me) h.lent)) (λ g. answer (record { whole = s.whole g.me; mem = g }));
      }
