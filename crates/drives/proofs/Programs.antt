-- Programs one after the other: what they leave, where a cut can find them, and what they ask for.
-- Assumes nothing.
use mathlib.Core.Path.{◌≡◌, refl, subst, ap}
use mathlib.Core.Logic.{◌⊎◌, inl, inr}
use Prim.Native.Nat.{ℕ, ◌+◌}
use Rattle.drives.specs.Drives.{Drives, Io, run, Upto, then', put, shown, written_to, synced_one, Fair, ops_of}

pub run_then : {A B : Type 0} (p : Io A) (f : A → Io B) (d : Drives) → run (then' p f) d ≡ run (f (run p d).value) (run p d).drives
unfolding run then'
run_then (Io.answer a) f d = refl
run_then (Io.read i s k) f d = run_then (k (shown (d i) s)) f d
run_then (Io.write i s b p) f d = run_then p f (put i (written_to s b (d i)) d)
run_then (Io.sync i p) f d = run_then p f (put i (synced_one (d i)) d)

or_left : {A B C : Type 0} → (A → B) → A ⊎ C → B ⊎ C
or_left f (inl a) = inl (f a)
or_left f (inr c) = inr c

-- a cut in `p` and then `f` is in `p`, or in `f` after all of `p`
pub upto_then : {A B : Type 0} (p : Io A) (f : A → Io B) {d g : Drives} → Upto (then' p f) d g → Upto p d g ⊎ Upto (f (run p d).value) (run p d).drives g
unfolding run then'
upto_then (Io.answer a) f u = inr u
upto_then (Io.read i s k) f Upto.here = inl Upto.here
upto_then (Io.read i s k) f (Upto.reads {d = d} u) = or_left Upto.reads (upto_then (k (shown (d i) s)) f u)
upto_then (Io.write i s b p) f Upto.here = inl Upto.here
upto_then (Io.write i s b p) f (Upto.writes u) = or_left Upto.writes (upto_then p f u)
upto_then (Io.sync i p) f Upto.here = inl Upto.here
upto_then (Io.sync i p) f (Upto.syncs u) = or_left Upto.syncs (upto_then p f u)

pub upto_end : {A : Type 0} (p : Io A) (d : Drives) → Upto p d (run p d).drives
unfolding run
upto_end (Io.answer a) d = Upto.here
upto_end (Io.read i s k) d = Upto.reads (upto_end (k (shown (d i) s)) d)
upto_end (Io.write i s b p) d = Upto.writes (upto_end p (put i (written_to s b (d i)) d))
upto_end (Io.sync i p) d = Upto.syncs (upto_end p (put i (synced_one (d i)) d))

pub upto_answer : {A : Type 0} {a : A} {d g : Drives} → Upto (Io.answer a) d g → d ≡ g
upto_answer Upto.here = refl

-- what is only worked out afterwards gives a cut no other place
pub upto_map : {A B : Type 0} (p : Io A) (f : A → B) {d g : Drives} → Upto (then' p (λ x. Io.answer (f x))) d g → Upto p d g
upto_map p f {d} u =
    elim (upto_then p (λ x. Io.answer (f x)) u) [
      | inl v ↦ v
      | inr v ↦ subst (λ g. Upto p d g) (upto_answer v) (upto_end p d)
    ]

pub fair_then : {size : ℕ} {A B : Type 0} (p : Io A) (f : A → Io B) (d : Drives) → Fair size p d → Fair size (f (run p d).value) (run p d).drives → Fair size (then' p f) d
unfolding run then'
fair_then (Io.answer a) f d h k = k
fair_then (Io.read i s q) f d (Fair.reads a b h) k = Fair.reads a b (fair_then (q (shown (d i) s)) f d h k)
fair_then (Io.write i s b p) f d (Fair.writes x y z v h) k = Fair.writes x y z v (fair_then p f (put i (written_to s b (d i)) d) h k)
fair_then (Io.sync i p) f d (Fair.syncs a h) k = Fair.syncs a (fair_then p f (put i (synced_one (d i)) d) h k)

pub ops_map : {A B : Type 0} (p : Io A) (f : A → B) (d : Drives) → ops_of (then' p (λ x. Io.answer (f x))) d ≡ ops_of p d
unfolding ops_of then'
ops_map (Io.answer a) f d = refl
ops_map (Io.read i s k) f d = ap (λ n. 1 + n) (ops_map (k (shown (d i) s)) f d)
ops_map (Io.write i s b p) f d = ap (λ n. 1 + n) (ops_map p f (put i (written_to s b (d i)) d))
ops_map (Io.sync i p) f d = ap (λ n. 1 + n) (ops_map p f (put i (synced_one (d i)) d))
