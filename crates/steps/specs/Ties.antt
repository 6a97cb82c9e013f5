-- What ties the steps of a machine in code to a machine that is written to be read.
-- Assumes nothing.
use Rattle.std.specs.Prelude.{◌≡◌, ℕ, suc, ◌≤◌, List, []}
use Rattle.drives.specs.Drives.{smallest, largest, Io, answer, read, write, sync}
use Rattle.drives.specs.Machines.{Machine, Judge, Keeps, Within}
use Rattle.steps.specs.Steps.{Held, Stepped, Stepping, unused, sector_at, first, machine_of}
use Rattle.steps.specs.declared.Lent.{Lent}
use Rattle.steps.specs.declared.Ask.TheVariants.{Read, Write, Sync, Again, Done}

-- Goes f S n x p: from the step x on, the steps f ask for just what the program p does, come to their end within n requests, and end at a state that S ties to p's answer.
pub data Goes {M A : Type 0} (f : Held M → List ℕ → Stepped M) (S : Held M → A → Type 0) : ℕ → Stepped M → Io A → Type 0 where
  ends : {n : ℕ} {me : M} {lent : Lent} {a : A} → S (record { me = me; lent = lent }) a → Goes f S (suc n) (record { me = me; lent = lent; ask = Done }) (answer a)
  reads : {n : ℕ} {me : M} {lent : Lent} {i s : ℕ} {k : List ℕ → Io A} → ((got : List ℕ) → Goes f S n (f (record { me = me; lent = lent }) got) (k got)) →
      Goes f S (suc n) (record { me = me; lent = lent; ask = Read i s }) (read i s k)
  writes : {n : ℕ} {me : M} {lent : Lent} {i s at : ℕ} {b : List ℕ} {p : Io A} → sector_at at lent ≡ b → Goes f S n (f (record { me = me; lent = lent }) []) p →
      Goes f S (suc n) (record { me = me; lent = lent; ask = Write i s at }) (write i s b p)
  syncs : {n : ℕ} {me : M} {lent : Lent} {i : ℕ} {p : Io A} → Goes f S n (f (record { me = me; lent = lent }) []) p →
      Goes f S (suc n) (record { me = me; lent = lent; ask = Sync i }) (sync i p)
  again : {n : ℕ} {me : M} {lent : Lent} {p : Io A} → Goes f S n (f (record { me = me; lent = lent }) []) p →
      Goes f S (suc n) (record { me = me; lent = lent; ask = Again }) p

-- The code s is the readable machine e on drives of a size, where n requests are enough for whatever it is asked.
-- S says which state of the code stands for which memory of e between calls. It need not mention what is lent.
pub record Tied {C R M : Type 0} (s : Stepping C R M) (n size : ℕ) (e : Machine C R) (S : Held M → e.Mem → Type 0) : Type 0 where
  pub opens : Goes s.steps S n (first s (s.opening size) unused) (e.opens size)
  pub does : (c : C) (h : Held M) (m : e.Mem) → S h m →
      Goes s.steps (λ g x. (s.says g.me ≡ x.reply) × S g x.mem) n (first s (s.starts c h.me) h.lent) (e.does c m)
  pub mends : (h : Held M) (m : e.Mem) → S h m →
      Goes s.steps (λ g x. (s.whole g.me ≡ x.whole) × S g x.mem) n (first s (s.mending h.me) h.lent) (e.mends m)

-- the same on drives of every size
abbrev pub TiedAll : {C R M : Type 0} (s : Stepping C R M) (n : ℕ) (e : Machine C R) → (ℕ → Held M → e.Mem → Type 0) → Type 0
TiedAll s n e S = (size : ℕ) → smallest ≤ size → size ≤ largest → Tied s n size e (S size)

-- NO GAP: what the readable machine keeps to, the code keeps to, with any budget that is enough.
abbrev pub CodeKeeps : {C R M : Type 0} → Stepping C R M → ℕ → Machine C R → (ℕ → Judge C R) → Type 0
CodeKeeps s n e j = Keeps j e → (b : ℕ) → n ≤ b → Keeps j (machine_of s b)

-- and it is as fair, and its stretches are no longer
abbrev pub CodeWithin : {C R M : Type 0} → Stepping C R M → ℕ → Machine C R → Type 0
CodeWithin s n e = Within e → (b : ℕ) → n ≤ b → Within (machine_of s b)
