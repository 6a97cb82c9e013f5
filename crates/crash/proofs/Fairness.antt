-- Programs on all six drives are fair, and how much they ask for.
-- Assumes nothing.
use mathlib.Core.Path.{◌≡◌, refl, ◌∙◌, subst}
use mathlib.Core.Bool.{Bool, true, false, cond}
use mathlib.Core.List.{List, []}
use Prim.Native.Nat.{ℕ, zero, suc, ◌+◌, ◌*◌, ◌<◌, ◌≤◌}
use native.Mathlib.Omega.{arith}
use lib.Dec.{T}
use lib.ListN.{length}
use Rattle.drives.specs.Drives.{Slot, gone, there, Drives, shown, written_to, synced_one, put, Io, then', run, all_bytes, Fair, ops_of}
use Rattle.drives.specs.Machines.{is_gone}
use Rattle.crash.specs.Loops.{on_each, write_if, syncs, gather, read_all, gather_if, read_if, count}
use Rattle.crash.specs.RefinementBy.{IsSector, Whole}
use Rattle.crash.proofs.Updates.{put_elim}
use Rattle.crash.proofs.Wholes.{whole_put, whole_write, whole_sync}
use Rattle.crash.proofs.Does.{Read, read_more, read_if_more, read_if_less}

pub ops_then : {A B : Type 0} (p : Io A) (f : A → Io B) (d : Drives) → ops_of (then' p f) d ≡ ops_of p d + ops_of (f (run p d).value) (run p d).drives
unfolding ops_of then' run
ops_then (Io.answer a) f d = omega arith
ops_then (Io.read i s k) f d = omega (arith, ops_then (k (shown (d i) s)) f d)
ops_then (Io.write i s b p) f d = omega (arith, ops_then p f (put i (written_to s b (d i)) d))
ops_then (Io.sync i p) f d = omega (arith, ops_then p f (put i (synced_one (d i)) d))

-- fair, wherever it starts
abbrev pub FairAnywhere : {A : Type 0} → ℕ → Io A → Type 0
FairAnywhere size p = (d : Drives) → Fair size p d

-- asks for no more than m things, wherever it starts
pub record AtMost {A : Type 0} (m : ℕ) (p : Io A) : Type 0 where
  pub asks : (d : Drives) → ops_of p d ≤ m

module _ {A : Type 0} {size : ℕ} where
  below_fair : (N : ℕ) {f : ℕ → Io A → Io A} {p : Io A} → ((i : ℕ) (q : Io A) → i < N → FairAnywhere size q → FairAnywhere size (f i q)) → FairAnywhere size p → (n : ℕ) → n ≤ N → FairAnywhere size (on_each n f p)
  unfolding on_each
  below_fair N st h zero l = h
  below_fair N {f} {p} st h (suc n) l = st n (on_each n f p) (omega arith) (below_fair N st h n (omega arith))

  pub fair_each : (n : ℕ) {f : ℕ → Io A → Io A} {p : Io A} → ((i : ℕ) (q : Io A) → i < n → FairAnywhere size q → FairAnywhere size (f i q)) → FairAnywhere size p → FairAnywhere size (on_each n f p)
  fair_each n st h = below_fair n st h n (omega arith)

  pub fair_write : (t : ℕ → Bool) {s : ℕ} (b : ℕ → List ℕ) → s < size → ((i : ℕ) → i < 6 → length (b i) ≡ 512) → ((i : ℕ) → i < 6 → T (all_bytes (b i))) →
      (i : ℕ) (q : Io A) → i < 6 → FairAnywhere size q → FairAnywhere size (write_if t s b i q)
  fair_write t {s} b l e v i q c h d = go (t i)
    where
      go : (x : Bool) → Fair size (cond x (Io.write i s (b i) q) q) d
      go true = Fair.writes c l (e i c) (v i c) (h (put i (written_to s (b i) (d i)) d))
      go false = h d

  pub fair_sync : (i : ℕ) (q : Io A) → i < 6 → FairAnywhere size q → FairAnywhere size (syncs i q)
  fair_sync i q c h d = Fair.syncs c (h (put i (synced_one (d i)) d))

  gather_fair : {s : ℕ} {k : (ℕ → List ℕ) → Io A} → s < size → ((f : ℕ → List ℕ) → FairAnywhere size (k f)) → (n : ℕ) → n ≤ 6 → (f : ℕ → List ℕ) → FairAnywhere size (gather s n f k)
  unfolding gather
  gather_fair l h zero b f d = h f d
  gather_fair {s} l h (suc n) b f d = Fair.reads (omega arith) l (gather_fair l h n (omega arith) (put n (shown (d n) s) f) d)

  pub fair_read_all : {s : ℕ} {k : (ℕ → List ℕ) → Io A} → s < size → ((f : ℕ → List ℕ) → FairAnywhere size (k f)) → FairAnywhere size (read_all s k)
  fair_read_all l h = gather_fair l h 6 (omega arith) (λ i. [])

module _ {A : Type 0} where
  pub ops_answer : (a : A) → AtMost 0 (Io.answer a)
  unfolding ops_of
  ops_answer a = record { asks = λ d. omega arith }

  -- c more for each drive
  pub ops_each : (c : ℕ) {m : ℕ} {f : ℕ → Io A → Io A} {p : Io A} → ((i m : ℕ) (q : Io A) → AtMost m q → AtMost (m + c) (f i q)) → AtMost m p → (n : ℕ) → AtMost (m + n * c) (on_each n f p)
  unfolding on_each
  ops_each c st h zero = record { asks = λ d. omega (arith, h.asks d) }
  ops_each c {m} {f} {p} st h (suc n) = record { asks = λ d. omega (arith, (st n (m + n * c) (on_each n f p) (ops_each c st h n)).asks d) }

  pub ops_write : (t : ℕ → Bool) (s : ℕ) (b : ℕ → List ℕ) (i m : ℕ) (q : Io A) → AtMost m q → AtMost (m + 1) (write_if t s b i q)
  unfolding ops_of
  ops_write t s b i m q h = go (t i)
    where
      go : (x : Bool) → AtMost (m + 1) (cond x (Io.write i s (b i) q) q)
      go true = record { asks = λ d. omega (arith, h.asks (put i (written_to s (b i) (d i)) d)) }
      go false = record { asks = λ d. omega (arith, h.asks d) }

  pub ops_sync : (i m : ℕ) (q : Io A) → AtMost m q → AtMost (m + 1) (syncs i q)
  unfolding ops_of
  ops_sync i m q h = record { asks = λ d. omega (arith, h.asks (put i (synced_one (d i)) d)) }

  gather_ops : (s : ℕ) {m : ℕ} {k : (ℕ → List ℕ) → Io A} → ((f : ℕ → List ℕ) → AtMost m (k f)) → (n : ℕ) (f : ℕ → List ℕ) → AtMost (m + n) (gather s n f k)
  unfolding gather ops_of
  gather_ops s h zero f = record { asks = λ d. omega (arith, (h f).asks d) }
  gather_ops s h (suc n) f = record { asks = λ d. omega (arith, (gather_ops s h n (put n (shown (d n) s) f)).asks d) }

  pub ops_read_all : {m : ℕ} (s : ℕ) {k : (ℕ → List ℕ) → Io A} → ((f : ℕ → List ℕ) → AtMost m (k f)) → AtMost (m + 6) (read_all s k)
  ops_read_all s h = gather_ops s h 6 (λ i. [])

-- PROGRAMS WHOSE LENGTH DEPENDS ON TESTS

module _ {A : Type 0} where
  pub ops_more : {m n : ℕ} {p : Io A} → m ≤ n → AtMost m p → AtMost n p
  ops_more l h = record { asks = λ d. omega (arith, h.asks d) }

  -- a write for each drive that passes
  pub ops_writes : (t : ℕ → Bool) (s : ℕ) (b : ℕ → List ℕ) {m : ℕ} {p : Io A} → AtMost m p → (n : ℕ) → AtMost (m + count t n) (on_each n (write_if t s b) p)
  unfolding on_each count ops_of
  ops_writes t s b h zero = record { asks = λ d. omega (arith, h.asks d) }
  ops_writes t s b {m} {p} h (suc n) = go (ops_writes t s b h n) (t n)
    where
      go : AtMost (m + count t n) (on_each n (write_if t s b) p) → (v : Bool) → AtMost (m + cond v (suc (count t n)) (count t n)) (cond v (Io.write n s (b n) (on_each n (write_if t s b) p)) (on_each n (write_if t s b) p))
      go h true = record { asks = λ d. omega (arith, h.asks (put n (written_to s (b n) (d n)) d)) }
      go h false = h

  -- a read of each drive that passes
  pub ops_reads : (t : ℕ → Bool) (s : ℕ) {m : ℕ} {k : (ℕ → List ℕ) → Io A} → ((f : ℕ → List ℕ) → AtMost m (k f)) → (n : ℕ) (f : ℕ → List ℕ) → AtMost (m + count t n) (gather_if t s n f k)
  unfolding gather_if count ops_of
  ops_reads t s h zero f = record { asks = λ d. omega (arith, (h f).asks d) }
  ops_reads t s {m} {k} h (suc n) f = go (λ f. ops_reads t s h n f) (t n)
    where
      go : ((f : ℕ → List ℕ) → AtMost (m + count t n) (gather_if t s n f k)) → (v : Bool) → AtMost (m + cond v (suc (count t n)) (count t n)) (cond v (Io.read n s (λ b. gather_if t s n (put n b f) k)) (gather_if t s n f k))
      go h true = record { asks = λ d. omega (arith, (h (put n (shown (d n) s) f)).asks d) }
      go h false = h f

  -- by what was read of all drives
  module _ (s : ℕ) (k : (ℕ → List ℕ) → Io A) (d : Drives) where
    gather_ops_at : {m : ℕ} → ((f : ℕ → List ℕ) → Read s d f → ops_of (k f) d ≤ m) → (n : ℕ) (f : ℕ → List ℕ) → ((i : ℕ) → n ≤ i → i < 6 → f i ≡ shown (d i) s) → ops_of (gather s n f k) d ≤ m + n
    unfolding gather ops_of
    gather_ops_at h zero f r = omega (arith, h f (λ i. r i (omega arith)))
    gather_ops_at h (suc n) f r = omega (arith, gather_ops_at h n (put n (shown (d n) s) f) (read_more s d n f r))

    pub ops_read_at : {m : ℕ} → ((f : ℕ → List ℕ) → Read s d f → ops_of (k f) d ≤ m) → ops_of (read_all s k) d ≤ m + 6
    ops_read_at h = gather_ops_at h 6 (λ i. []) (λ i a b. absurd (omega arith))

    gather_fair_at : {size : ℕ} → s < size → ((f : ℕ → List ℕ) → Read s d f → Fair size (k f) d) → (n : ℕ) → n ≤ 6 → (f : ℕ → List ℕ) → ((i : ℕ) → n ≤ i → i < 6 → f i ≡ shown (d i) s) → Fair size (gather s n f k) d
    unfolding gather
    gather_fair_at l h zero b f r = h f (λ i. r i (omega arith))
    gather_fair_at l h (suc n) b f r = Fair.reads (omega arith) l (gather_fair_at l h n (omega arith) (put n (shown (d n) s) f) (read_more s d n f r))

    pub fair_read_at : {size : ℕ} → s < size → ((f : ℕ → List ℕ) → Read s d f → Fair size (k f) d) → Fair size (read_all s k) d
    fair_read_at l h = gather_fair_at l h 6 (omega arith) (λ i. []) (λ i a b. absurd (omega arith))

  -- by what was read of the drives that pass
  module _ (t : ℕ → Bool) (s : ℕ) {k : (ℕ → List ℕ) → Io A} {d : Drives} {size : ℕ} (l : s < size) (h : (f : ℕ → List ℕ) → ((i : ℕ) → i < 6 → t i ≡ true → f i ≡ shown (d i) s) → Fair size (k f) d) where
    reads_fair : (n : ℕ) → n ≤ 6 → (f : ℕ → List ℕ) → ((i : ℕ) → n ≤ i → i < 6 → t i ≡ true → f i ≡ shown (d i) s) → Fair size (gather_if t s n f k) d
    unfolding gather_if
    reads_fair zero b f r = h f (λ i. r i (omega arith))
    reads_fair (suc n) b f r = go (reads_fair n (omega arith) (put n (shown (d n) s) f) (read_if_more t s d n f r)) (λ e. reads_fair n (omega arith) f (read_if_less t s d n f r e)) (t n) refl
      where
        go : Fair size (gather_if t s n (put n (shown (d n) s) f) k) d → (t n ≡ false → Fair size (gather_if t s n f k) d) → (v : Bool) → t n ≡ v → Fair size (cond v (Io.read n s (λ b. gather_if t s n (put n b f) k)) (gather_if t s n f k)) d
        go x y true e = Fair.reads (omega arith) l x
        go x y false e = y e

    pub fair_read_if : Fair size (read_if t s k) d
    fair_read_if = reads_fair 6 (omega arith) (λ i. []) (λ i a b. absurd (omega arith))

-- Drives that hold whole sectors, and of which those that pass the test u are there: what is read of these is whole sectors.
pub record Sound (u : ℕ → Bool) (d : Drives) : Type 0 where
  pub whole : Whole d
  pub present : (i : ℕ) → i < 6 → u i ≡ true → is_gone (d i) ≡ false

written_gone : (s : ℕ) (b : List ℕ) (x : Slot) → is_gone (written_to s b x) ≡ is_gone x
unfolding written_to is_gone
written_gone s b gone = refl
written_gone s b (there d) = refl

synced_gone : (x : Slot) → is_gone (synced_one x) ≡ is_gone x
unfolding synced_one is_gone
synced_gone gone = refl
synced_gone (there d) = refl

pub sound_write : {u : ℕ → Bool} {d : Drives} (i s : ℕ) (b : List ℕ) → IsSector b → Sound u d → Sound u (put i (written_to s b (d i)) d)
sound_write {u} {d} i s b h g =
    record {
      whole = whole_put i (written_to s b (d i)) (whole_write s b h (g.whole i)) g.whole;
      present = λ j l e. put_elim (λ x. is_gone x ≡ false) i j (written_to s b (d i)) d (λ q. written_gone s b (d i) ∙ subst (λ k. is_gone (d k) ≡ false) q (g.present j l e)) (λ n. g.present j l e);
    }

pub sound_sync : {u : ℕ → Bool} {d : Drives} (i : ℕ) → Sound u d → Sound u (put i (synced_one (d i)) d)
sound_sync {u} {d} i g =
    record {
      whole = whole_put i (synced_one (d i)) (whole_sync (g.whole i)) g.whole;
      present = λ j l e. put_elim (λ x. is_gone x ≡ false) i j (synced_one (d i)) d (λ q. synced_gone (d i) ∙ subst (λ k. is_gone (d k) ≡ false) q (g.present j l e)) (λ n. g.present j l e);
    }

-- fair wherever drives are sound
abbrev pub FairSound : {A : Type 0} → (ℕ → Bool) → ℕ → Io A → Type 0
FairSound u size p = (d : Drives) → Sound u d → Fair size p d

pub sound_writes : {A : Type 0} {size : ℕ} (u t : ℕ → Bool) (s : ℕ) (b : ℕ → List ℕ) {p : Io A} → s < size → ((i : ℕ) → i < 6 → IsSector (b i)) → FairSound u size p → (n : ℕ) → n ≤ 6 → FairSound u size (on_each n (write_if t s b) p)
unfolding on_each
sound_writes u t s b l h k zero c d g = k d g
sound_writes {size = size} u t s b {p} l h k (suc n) c d g = go (sound_writes u t s b l h k n (omega arith)) (t n)
  where
    go : FairSound u size (on_each n (write_if t s b) p) → (v : Bool) → Fair size (cond v (Io.write n s (b n) (on_each n (write_if t s b) p)) (on_each n (write_if t s b) p)) d
    go k true = Fair.writes (omega arith) l (h n (omega arith)).0 (h n (omega arith)).1 (k _ (sound_write n s (b n) (h n (omega arith)) g))
    go k false = k d g

pub sound_syncs : {A : Type 0} {size : ℕ} (u : ℕ → Bool) {p : Io A} → FairSound u size p → (n : ℕ) → n ≤ 6 → FairSound u size (on_each n syncs p)
unfolding on_each
sound_syncs u k zero c d g = k d g
sound_syncs u k (suc n) c d g = Fair.syncs (omega arith) (sound_syncs u k n (omega arith) _ (sound_sync n g))
