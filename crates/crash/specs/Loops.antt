-- Programs that ask all six drives the same, drive by drive.
-- Assumes nothing.
use Rattle.std.specs.Prelude.{Bool, true, false, cond, List, [], ℕ, zero, suc}
use Rattle.drives.specs.Drives.{put, Io, read, write, sync}

-- the step f at each drive below n, the highest first, and then p
unfoldable pub on_each : {A : Type 0} → ℕ → (ℕ → Io A → Io A) → Io A → Io A
on_each zero f p = p
on_each (suc n) f p = f n (on_each n f p)

-- steps: a write of b i to sector s of drive i, where t says that it gets one; a sync
abbrev pub write_if : {A : Type 0} → (ℕ → Bool) → ℕ → (ℕ → List ℕ) → ℕ → Io A → Io A
write_if t s b i p = cond (t i) (write i s (b i) p) p

abbrev pub syncs : {A : Type 0} → ℕ → Io A → Io A
syncs i p = sync i p

-- reads sector s of the drives below n, and goes on with what each of the drives showed
unfoldable pub gather : {A : Type 0} → ℕ → ℕ → (ℕ → List ℕ) → ((ℕ → List ℕ) → Io A) → Io A
gather s zero f k = k f
gather s (suc n) f k = read n s (λ b. gather s n (put n b f) k)

abbrev pub read_all : {A : Type 0} → ℕ → ((ℕ → List ℕ) → Io A) → Io A
read_all s k = gather s 6 (λ i. []) k

abbrev pub sync_all : {A : Type 0} → Io A → Io A
sync_all p = on_each 6 syncs p

-- the same of those drives only that pass a test
unfoldable pub gather_if : {A : Type 0} → (ℕ → Bool) → ℕ → ℕ → (ℕ → List ℕ) → ((ℕ → List ℕ) → Io A) → Io A
gather_if t s zero f k = k f
gather_if t s (suc n) f k = cond (t n) (read n s (λ b. gather_if t s n (put n b f) k)) (gather_if t s n f k)

abbrev pub read_if : {A : Type 0} → (ℕ → Bool) → ℕ → ((ℕ → List ℕ) → Io A) → Io A
read_if t s k = gather_if t s 6 (λ i. []) k

-- how many of the drives below n pass a test, and whether one does
unfoldable pub count : (ℕ → Bool) → ℕ → ℕ
count t zero = 0
count t (suc n) = cond (t n) (suc (count t n)) (count t n)

unfoldable pub any : (ℕ → Bool) → ℕ → Bool
any t zero = false
any t (suc n) = cond (t n) true (any t n)
