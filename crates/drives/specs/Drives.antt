-- Drives and their sectors, what a power cut leaves of them, and programs that use them.
-- Assumes nothing.
use Rattle.std.specs.Prelude.{◌≡◌, ◌⊎◌, Bool, true, cond, ◌&&◌, ℕ, zero, suc, ◌+◌, ◌<◌, eqb, ltb, T, length}
use mathlib.Core.List.{List, [], ◌∷◌, Memᴰ}

-- A drive has from 4 MiB to 512 TiB, in sectors of 512 bytes.
abbrev pub smallest : ℕ
smallest = 8192

abbrev pub largest : ℕ
largest = 1099511627776

unfoldable pub zeros : ℕ → List ℕ
zeros zero = []
zeros (suc n) = 0 ∷ zeros n

-- kept: what each sector held when the drive last finished a sync; since: what was written to it after that, the latest first
pub record Drive : Type 0 where
  pub kept : ℕ → List ℕ
  pub since : ℕ → List (List ℕ)

abbrev pub blank_drive : Drive
blank_drive = record { kept = λ s. zeros 512; since = λ s. [] }

pub data Slot : Type 0 where
  gone : Slot
  there : Drive → Slot

-- by the number of the slot
abbrev pub Drives : Type 0
Drives = ℕ → Slot

unfoldable pub latest : List ℕ → List (List ℕ) → List ℕ
latest old [] = old
latest old (b ∷ bs) = b

-- A read gives what was written last, synced or not, and nothing at all where the drive is gone.
unfoldable pub shown : Slot → ℕ → List ℕ
shown gone s = []
shown (there d) s = latest (d.kept s) (d.since s)

unfoldable pub written_to : ℕ → List ℕ → Slot → Slot
written_to s b gone = gone
written_to s b (there d) = there (record { kept = d.kept; since = λ t. cond (eqb t s) (b ∷ d.since s) (d.since t) })

unfoldable pub synced_one : Slot → Slot
synced_one gone = gone
synced_one (there d) = there (record { kept = λ s. latest (d.kept s) (d.since s); since = λ s. [] })

abbrev pub put : {A : Type 0} → ℕ → A → (ℕ → A) → ℕ → A
put i x f j = cond (eqb j i) x (f j)

-- Sectors are atomic, and writes may reach the disk in any order: after a cut each sector holds, whatever the others do, what it held at the last sync or any one thing written to it since.
pub data CutSlot : Slot → Slot → Type 0 where
  nothing : CutSlot gone gone
  cut : (d e : Drive) → ((s : ℕ) → (e.kept s ≡ d.kept s) ⊎ Memᴰ (e.kept s) (d.since s)) → ((s : ℕ) → e.since s ≡ []) → CutSlot (there d) (there e)

abbrev pub AfterCut : Drives → Drives → Type 0
AfterCut d e = (i : ℕ) → CutSlot (d i) (e i)

-- A program asks for one thing at a time, and ends with an answer.
pub data Io (A : Type 0) : Type 0 where
  answer : A → Io A
  read : (drive sector : ℕ) → (List ℕ → Io A) → Io A
  write : (drive sector : ℕ) → List ℕ → Io A → Io A
  sync : (drive : ℕ) → Io A → Io A

unfoldable pub then' : {A B : Type 0} → Io A → (A → Io B) → Io B
then' (answer a) f = f a
then' (read i s k) f = read i s (λ b. then' (k b) f)
then' (write i s b p) f = write i s b (then' p f)
then' (sync i p) f = sync i (then' p f)

pub record Ran (A : Type 0) : Type 0 where
  pub value : A
  pub drives : Drives

unfoldable pub run : {A : Type 0} → Io A → Drives → Ran A
run (answer a) d = record { value = a; drives = d }
run (read i s k) d = run (k (shown (d i) s)) d
run (write i s b p) d = run p (put i (written_to s b (d i)) d)
run (sync i p) d = run p (put i (synced_one (d i)) d)

-- Upto p d e: a program p that was started on d may have the drives at e when it is stopped.
pub data Upto {A : Type 0} : Io A → Drives → Drives → Type 0 where
  here : {p : Io A} {d : Drives} → Upto p d d
  reads : {i s : ℕ} {k : List ℕ → Io A} {d e : Drives} → Upto (k (shown (d i) s)) d e → Upto (read i s k) d e
  writes : {i s : ℕ} {b : List ℕ} {p : Io A} {d e : Drives} → Upto p (put i (written_to s b (d i)) d) e → Upto (write i s b p) d e
  syncs : {i : ℕ} {p : Io A} {d e : Drives} → Upto p (put i (synced_one (d i)) d) e → Upto (sync i p) d e

-- how many things a program asks for
unfoldable pub ops_of : {A : Type 0} → Io A → Drives → ℕ
ops_of (answer a) d = 0
ops_of (read i s k) d = 1 + ops_of (k (shown (d i) s)) d
ops_of (write i s b p) d = 1 + ops_of p (put i (written_to s b (d i)) d)
ops_of (sync i p) d = 1 + ops_of p (put i (synced_one (d i)) d)

unfoldable pub all_bytes : List ℕ → Bool
all_bytes [] = true
all_bytes (b ∷ bs) = ltb b 256 && all_bytes bs

-- A fair program asks only for what there can be: drives 0 to 5, sectors below the size, whole sectors of bytes.
pub data Fair (size : ℕ) {A : Type 0} : Io A → Drives → Type 0 where
  ends : (a : A) (d : Drives) → Fair size (answer a) d
  reads : {i s : ℕ} {k : List ℕ → Io A} {d : Drives} → i < 6 → s < size → Fair size (k (shown (d i) s)) d → Fair size (read i s k) d
  writes : {i s : ℕ} {b : List ℕ} {p : Io A} {d : Drives} → i < 6 → s < size → length b ≡ 512 → T (all_bytes b) → Fair size p (put i (written_to s b (d i)) d) → Fair size (write i s b p) d
  syncs : {i : ℕ} {p : Io A} {d : Drives} → i < 6 → Fair size p (put i (synced_one (d i)) d) → Fair size (sync i p) d
