-- Rules for `Does`: what holds wherever a program is stopped, and at its end.
-- Assumes nothing.
use mathlib.Core.Path.{◌≡◌, refl, sym, ◌∙◌, ap, subst, subst⁻¹}
use mathlib.Core.Logic.{◌⊎◌, inl, inr, ⊎_elim}
use mathlib.Core.Bool.{Bool, true, false, cond, true≢false}
use mathlib.Core.List.{List, []}
use Prim.Native.Nat.{ℕ, zero, suc, ◌<◌, ◌≤◌}
use native.Mathlib.Omega.{arith}
use Rattle.drives.specs.Drives.{Slot, Drives, shown, written_to, synced_one, put, Io, then', run, Upto}
use Rattle.drives.proofs.Programs.{run_then, upto_then}
use Rattle.crash.specs.Loops.{on_each, write_if, syncs, gather, read_all, gather_if, read_if}
use Rattle.crash.specs.Refinement.{Does}
use Rattle.crash.proofs.Updates.{same?, put_elim, put_off, put_same}

-- EACH KIND OF STEP

module _ {A : Type 0} {I : Drives → Type 0} {Q : A → Drives → Type 0} where
  pub does_answer : {a : A} {d : Drives} → I d → Q a d → Does I Q (Io.answer a) d
  unfolding run
  does_answer {a} {d} h q = record { always = at; ends = q }
    where
      at : {f : Drives} → Upto (Io.answer a) d f → I f
      at Upto.here = h

  -- the drives are the same before a read and after it
  pub does_read : {i s : ℕ} {k : List ℕ → Io A} {d : Drives} → Does I Q (k (shown (d i) s)) d → Does I Q (Io.read i s k) d
  unfolding run
  does_read {i} {s} {k} {d} h = record { always = at; ends = h.ends }
    where
      at : {f : Drives} → Upto (Io.read i s k) d f → I f
      at Upto.here = h.always Upto.here
      at (Upto.reads u) = h.always u

  pub does_write : {i s : ℕ} {b : List ℕ} {p : Io A} {d : Drives} → I d → Does I Q p (put i (written_to s b (d i)) d) → Does I Q (Io.write i s b p) d
  unfolding run
  does_write {i} {s} {b} {p} {d} j h = record { always = at; ends = h.ends }
    where
      at : {f : Drives} → Upto (Io.write i s b p) d f → I f
      at Upto.here = j
      at (Upto.writes u) = h.always u

  pub does_sync : {i : ℕ} {p : Io A} {d : Drives} → I d → Does I Q p (put i (synced_one (d i)) d) → Does I Q (Io.sync i p) d
  unfolding run
  does_sync {i} {p} {d} j h = record { always = at; ends = h.ends }
    where
      at : {f : Drives} → Upto (Io.sync i p) d f → I f
      at Upto.here = j
      at (Upto.syncs u) = h.always u

  pub does_more : {I' : Drives → Type 0} {Q' : A → Drives → Type 0} {p : Io A} {d : Drives} → ((e : Drives) → I e → I' e) → ((a : A) (e : Drives) → Q a e → Q' a e) → Does I Q p d → Does I' Q' p d
  does_more i q h = record { always = λ u. i _ (h.always u); ends = q _ _ h.ends }

-- one program after the other
pub does_then : {A B : Type 0} {I : Drives → Type 0} {Q : A → Drives → Type 0} {R : B → Drives → Type 0} (p : Io A) (f : A → Io B) {d : Drives} →
    Does I Q p d → ((a : A) (e : Drives) → Q a e → Does I R (f a) e) → Does I R (then' p f) d
does_then {I = I} {R = R} p f {d} h k =
    let later = k (run p d).value (run p d).drives h.ends in
    record { always = λ u. ⊎_elim h.always later.always (upto_then p f u); ends = subst⁻¹ (λ r. R r.value r.drives) (run_then p f d) later.ends }

-- A LOOP of any length: L n holds while the steps below n are still to be done
module _ {A : Type 0} {I : Drives → Type 0} {Q : A → Drives → Type 0} {f : ℕ → Io A → Io A} {p : Io A} (L : ℕ → Drives → Type 0)
    (step : (n : ℕ) (q : Io A) (d : Drives) → L (suc n) d → ((e : Drives) → L n e → Does I Q q e) → Does I Q (f n q) d) (rest : (e : Drives) → L 0 e → Does I Q p e) where
  pub does_loop : (n : ℕ) {d : Drives} → L n d → Does I Q (on_each n f p) d
  unfolding on_each
  does_loop zero {d} h = rest d h
  does_loop (suc n) {d} h = step n (on_each n f p) d h (λ e g. does_loop n g)

-- ALL SIX DRIVES

abbrev pub Each : (ℕ → Slot → Type 0) → Drives → Type 0
Each F d = (i : ℕ) → i < 6 → F i (d i)

-- a step f that does `act` to a drive, and nothing to the others
abbrev pub Acts : {A : Type 0} (I : Drives → Type 0) (Q : A → Drives → Type 0) → (ℕ → Io A → Io A) → (ℕ → Slot → Slot) → Type 0
Acts {A} I Q f act = (i : ℕ) (q : Io A) (d : Drives) → I d → Does I Q q (put i (act i (d i)) d) → Does I Q (f i q) d

abbrev pub written_if : (ℕ → Bool) → ℕ → (ℕ → List ℕ) → ℕ → Slot → Slot
written_if t s b i x = cond (t i) (written_to s (b i) x) x

module _ {A : Type 0} {I : Drives → Type 0} {Q : A → Drives → Type 0} where
  -- Each drive is as F says before its step, as G says after it, and as J says all along.
  module _ {f : ℕ → Io A → Io A} {act : ℕ → Slot → Slot} {p : Io A} {F G J : ℕ → Slot → Type 0} (acts : Acts I Q f act) (stop : (e : Drives) → Each J e → I e)
      (before : (i : ℕ) (x : Slot) → F i x → J i x) (after : (i : ℕ) (x : Slot) → G i x → J i x) (step : (i : ℕ) (x : Slot) → i < 6 → F i x → G i (act i x)) (rest : (e : Drives) → Each G e → Does I Q p e) where
    down : (n : ℕ) → n ≤ 6 → (d : Drives) → ((i : ℕ) → i < n → F i (d i)) → ((i : ℕ) → n ≤ i → i < 6 → G i (d i)) → Does I Q (on_each n f p) d
    unfolding on_each
    down zero l d todo done = rest d (λ i. done i (omega arith))
    down (suc n) l d todo done =
        acts n (on_each n f p) d (stop d all)
        (down n (omega arith) (put n (act n (d n)) d) (λ i k. subst⁻¹ (F i) (put_off n i (act n (d n)) d (omega arith)) (todo i (omega arith))) now)
      where
        all : Each J d
        all i l = ⊎_elim (λ k. before i (d i) (todo i k)) (λ k. after i (d i) (done i k l)) (below i (suc n))
          where
            below : (i n : ℕ) → (i < n) ⊎ (n ≤ i)
            below i zero = inr (omega arith)
            below i (suc n) = ⊎_elim (λ e. inl (omega arith)) (λ m. ⊎_elim (λ k. inl (omega arith)) (λ k. inr (omega arith)) (below i n)) (same? i n)

        now : (i : ℕ) → n ≤ i → i < 6 → G i (put n (act n (d n)) d i)
        now i a b = put_elim (G i) n i (act n (d n)) d (λ e. subst⁻¹ (λ m. G m (act n (d n))) e (step n (d n) (omega arith) (todo n (omega arith)))) (λ m. done i (omega arith) b)

    pub does_each : {d : Drives} → Each F d → Does I Q (on_each 6 f p) d
    does_each {d} h = down 6 (omega arith) d h (λ i a b. absurd (omega arith))

  pub acts_sync : Acts I Q syncs (λ i. synced_one)
  acts_sync i q d h k = does_sync h k

  pub acts_write : (t : ℕ → Bool) (s : ℕ) (b : ℕ → List ℕ) → Acts I Q (write_if t s b) (written_if t s b)
  acts_write t s b i q d h k = go (t i) k
    where
      go : (v : Bool) → Does I Q q (put i (cond v (written_to s (b i) (d i)) (d i)) d) → Does I Q (cond v (Io.write i s (b i) q) q) d
      go true k = does_write h k
      go false k = subst (Does I Q q) (put_same i d) k

-- what was read of each drive is what it shows
abbrev pub Read : ℕ → Drives → (ℕ → List ℕ) → Type 0
Read s d f = (i : ℕ) → i < 6 → f i ≡ shown (d i) s

-- what was read of the drives above n, and then of drive n
pub read_more : (s : ℕ) (d : Drives) (n : ℕ) (f : ℕ → List ℕ) → ((i : ℕ) → suc n ≤ i → i < 6 → f i ≡ shown (d i) s) → (i : ℕ) → n ≤ i → i < 6 → put n (shown (d n) s) f i ≡ shown (d i) s
read_more s d n f r i a b = put_elim (λ x. x ≡ shown (d i) s) n i (shown (d n) s) f (λ e. subst⁻¹ (λ m. shown (d n) s ≡ shown (d m) s) e refl) (λ m. r i (omega arith) b)

module _ {A : Type 0} {I : Drives → Type 0} {Q : A → Drives → Type 0} (s : ℕ) {k : (ℕ → List ℕ) → Io A} {d : Drives} (h : (f : ℕ → List ℕ) → Read s d f → Does I Q (k f) d) where
  reads_below : (n : ℕ) (f : ℕ → List ℕ) → ((i : ℕ) → n ≤ i → i < 6 → f i ≡ shown (d i) s) → Does I Q (gather s n f k) d
  unfolding gather
  reads_below zero f r = h f (λ i. r i (omega arith))
  reads_below (suc n) f r = does_read (reads_below n (put n (shown (d n) s) f) (read_more s d n f r))

  pub does_read_all : Does I Q (read_all s k) d
  does_read_all = reads_below 6 (λ i. []) (λ i a b. absurd (omega arith))

-- the same of those drives that pass a test
pub read_if_more : (t : ℕ → Bool) (s : ℕ) (d : Drives) (n : ℕ) (f : ℕ → List ℕ) → ((i : ℕ) → suc n ≤ i → i < 6 → t i ≡ true → f i ≡ shown (d i) s) → (i : ℕ) → n ≤ i → i < 6 → t i ≡ true → put n (shown (d n) s) f i ≡ shown (d i) s
read_if_more t s d n f r i a b p = put_elim (λ x. x ≡ shown (d i) s) n i (shown (d n) s) f (λ e. subst⁻¹ (λ m. shown (d n) s ≡ shown (d m) s) e refl) (λ m. r i (omega arith) b p)

pub read_if_less : (t : ℕ → Bool) (s : ℕ) (d : Drives) (n : ℕ) (f : ℕ → List ℕ) → ((i : ℕ) → suc n ≤ i → i < 6 → t i ≡ true → f i ≡ shown (d i) s) → t n ≡ false → (i : ℕ) → n ≤ i → i < 6 → t i ≡ true → f i ≡ shown (d i) s
read_if_less t s d n f r e i a b p = ⊎_elim (λ q. absurd (true≢false (sym p ∙ ap t q ∙ e))) (λ q. r i (omega arith) b p) (same? i n)

module _ {A : Type 0} {I : Drives → Type 0} {Q : A → Drives → Type 0} (t : ℕ → Bool) (s : ℕ) {k : (ℕ → List ℕ) → Io A} {d : Drives}
    (h : (f : ℕ → List ℕ) → ((i : ℕ) → i < 6 → t i ≡ true → f i ≡ shown (d i) s) → Does I Q (k f) d) where
  reads_if : (n : ℕ) (f : ℕ → List ℕ) → ((i : ℕ) → n ≤ i → i < 6 → t i ≡ true → f i ≡ shown (d i) s) → Does I Q (gather_if t s n f k) d
  unfolding gather_if
  reads_if zero f r = h f (λ i. r i (omega arith))
  reads_if (suc n) f r = go (reads_if n (put n (shown (d n) s) f) (read_if_more t s d n f r)) (λ e. reads_if n f (read_if_less t s d n f r e)) (t n) refl
    where
      go : Does I Q (gather_if t s n (put n (shown (d n) s) f) k) d → (t n ≡ false → Does I Q (gather_if t s n f k) d) → (v : Bool) → t n ≡ v → Does I Q (cond v (Io.read n s (λ b. gather_if t s n (put n b f) k)) (gather_if t s n f k)) d
      go x y true e = does_read x
      go x y false e = y e

  pub does_read_if : Does I Q (read_if t s k) d
  does_read_if = reads_if 6 (λ i. []) (λ i a b. absurd (omega arith))
