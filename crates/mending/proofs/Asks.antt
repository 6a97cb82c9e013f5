-- How much the mending of the root record asks for.
-- Assumes nothing.
use Rattle.std.proofs.Common.{◌≡◌, ℕ, zero, suc, ◌+◌, Bool, true, false, cond, not, List, [], sym, refl, ap, arith}
use Rattle.drives.specs.Drives.{Drives, Io, answer, write, shown, put, written_to, ops_of}
use Rattle.crash.specs.Loops.{on_each, write_if, sync_all, gather}
use Rattle.root.specs.Root.{Record, has, settle, untrusted}
use Rattle.labels.specs.Times.{Time, timed, label_in}
use Rattle.labels.proofs.Shows.{trust_is}
use Rattle.mending.specs.Stretches.{lacks, StretchAsks}

abbrev one : Bool → ℕ
one b = cond b 1 0

-- how many of the drives below n pass
abbrev passing : (ℕ → Bool) → ℕ → ℕ
passing t zero = 0
passing t (suc n) = one (t n) + passing t n

-- a program that asks for k whatever the drives hold
abbrev Asks : {A : Type 0} → Io A → ℕ → Type 0
Asks p k = (d : Drives) → ops_of p d ≡ k

asks_write : {A : Type 0} (v : Bool) (i : ℕ) (b : List ℕ) (p : Io A) (k : ℕ) → Asks p k → Asks (cond v (write i 0 b p) p) (one v + k)
unfolding ops_of
asks_write true i b p k h d = ap (λ j. 1 + j) (h (put i (written_to 0 b (d i)) d))
asks_write false i b p k h d = let e = h d in omega (arith, e)

asks_writes : {A : Type 0} (t : ℕ → Bool) (b : List ℕ) (p : Io A) (k n : ℕ) → Asks p k → Asks (on_each n (write_if t 0 (λ i. b)) p) (passing t n + k)
unfolding on_each
asks_writes t b p k zero h d = let e = h d in omega (arith, e)
asks_writes t b p k (suc n) h d = let e = asks_write (t n) n b (on_each n (write_if t 0 (λ i. b)) p) (passing t n + k) (asks_writes t b p k n h) d in omega (arith, e)

asks_syncs : {A : Type 0} (a : A) → Asks (sync_all (answer a)) 6
unfolding on_each ops_of
asks_syncs a d = refl

same_one : (b : List ℕ) → one (untrusted timed b) ≡ one (lacks (label_in b))
same_one b = ap (λ v. one (not v)) (sym (trust_is b))

-- what was read of six drives
abbrev sectors : Drives → ℕ → List ℕ
sectors d = put 0 (shown (d 0) 0) (put 1 (shown (d 1) 0) (put 2 (shown (d 2) 0) (put 3 (shown (d 3) 0) (put 4 (shown (d 4) 0) (put 5 (shown (d 5) 0) (λ i. []))))))

abbrev Mended : Type 0
Mended = record { whole : Bool; mem : Record Time }

pub stretch_asks : StretchAsks
unfolding gather ops_of settle
stretch_asks m d =
    let w = asks_writes {A = Mended} (λ i. untrusted timed (sectors d i)) (timed.encode (has m)) (sync_all (answer (record { whole = true; mem = m }))) 6 6 (asks_syncs {A = Mended} (record { whole = true; mem = m })) d in
    let e₀ = same_one (shown (d 0) 0) in
    let e₁ = same_one (shown (d 1) 0) in
    let e₂ = same_one (shown (d 2) 0) in
    let e₃ = same_one (shown (d 3) 0) in
    let e₄ = same_one (shown (d 4) 0) in
    let e₅ = same_one (shown (d 5) 0) in
    omega arith
