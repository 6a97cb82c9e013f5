-- Two programs that ask for the same and end alike: what one does on drives, the other does.
-- Assumes nothing.
use Rattle.std.proofs.Common.{◌≡◌, ℕ, zero, suc, ◌+◌, ◌≤◌, List, refl, ap, arith}
use Rattle.drives.specs.Drives.{Drives, Io, Ran, run, Upto, Fair, ops_of, then', shown}
use Rattle.steps.specs.Steps.{Held, Stepped, runs}
use Rattle.steps.specs.Ties.{Goes}

pub data Alike {A B : Type 0} (S : A → B → Type 0) : Io A → Io B → Type 0 where
  answers : {a : A} {b : B} → S a b → Alike S (Io.answer a) (Io.answer b)
  reads : {i s : ℕ} {k : List ℕ → Io A} {l : List ℕ → Io B} → ((got : List ℕ) → Alike S (k got) (l got)) → Alike S (Io.read i s k) (Io.read i s l)
  writes : {i s : ℕ} {b : List ℕ} {p : Io A} {q : Io B} → Alike S p q → Alike S (Io.write i s b p) (Io.write i s b q)
  syncs : {i : ℕ} {p : Io A} {q : Io B} → Alike S p q → Alike S (Io.sync i p) (Io.sync i q)

pub record Same {A B : Type 0} (S : A → B → Type 0) (x : Ran A) (y : Ran B) : Type 0 where
  pub values : S x.value y.value
  pub drives : y.drives ≡ x.drives

-- with any budget that is enough, steps are what they go to
pub goes_runs : {M A : Type 0} {f : Held M → List ℕ → Stepped M} {S : Held M → A → Type 0} {n : ℕ} {x : Stepped M} {p : Io A} → Goes f S n x p → (b : ℕ) → n ≤ b → Alike S (runs f b x) p
unfolding runs
goes_runs (Goes.ends s) zero h = absurd (omega arith)
goes_runs (Goes.ends s) (suc b) h = Alike.answers s
goes_runs (Goes.reads k) zero h = absurd (omega arith)
goes_runs (Goes.reads k) (suc b) h = Alike.reads (λ got. goes_runs (k got) b (omega arith))
goes_runs (Goes.writes e g) zero h = absurd (omega arith)
goes_runs (Goes.writes e g) (suc b) h = rw e (Alike.writes (goes_runs g b (omega arith)))
goes_runs (Goes.syncs g) zero h = absurd (omega arith)
goes_runs (Goes.syncs g) (suc b) h = Alike.syncs (goes_runs g b (omega arith))
goes_runs (Goes.again g) zero h = absurd (omega arith)
goes_runs (Goes.again g) (suc b) h = goes_runs g b (omega arith)

module _ {A B : Type 0} {S : A → B → Type 0} where
  -- what is only worked out afterwards
  pub alike_map : {D : Type 0} {T : D → B → Type 0} (f : A → D) → ((a : A) (b : B) → S a b → T (f a) b) → {p : Io A} {q : Io B} → Alike S p q → Alike T (then' p (λ a. Io.answer (f a))) q
  unfolding then'
  alike_map f t (Alike.answers s) = Alike.answers (t _ _ s)
  alike_map f t (Alike.reads k) = Alike.reads (λ got. alike_map f t (k got))
  alike_map f t (Alike.writes x) = Alike.writes (alike_map f t x)
  alike_map f t (Alike.syncs x) = Alike.syncs (alike_map f t x)

  pub alike_run : {p : Io A} {q : Io B} → Alike S p q → (d : Drives) → Same S (run p d) (run q d)
  unfolding run
  alike_run (Alike.answers s) d = record { values = s; drives = refl }
  alike_run (Alike.reads {i = i} {s = s} k) d = alike_run (k (shown (d i) s)) d
  alike_run (Alike.writes x) d = alike_run x _
  alike_run (Alike.syncs x) d = alike_run x _

  pub alike_upto : {p : Io A} {q : Io B} {d g : Drives} → Alike S p q → Upto p d g → Upto q d g
  alike_upto x Upto.here = Upto.here
  alike_upto (Alike.reads k) (Upto.reads u) = Upto.reads (alike_upto (k _) u)
  alike_upto (Alike.writes x) (Upto.writes u) = Upto.writes (alike_upto x u)
  alike_upto (Alike.syncs x) (Upto.syncs u) = Upto.syncs (alike_upto x u)

  pub alike_fair : {size : ℕ} {p : Io A} {q : Io B} {d : Drives} → Alike S p q → Fair size q d → Fair size p d
  alike_fair {d = d} (Alike.answers s) f = Fair.ends _ d
  alike_fair (Alike.reads k) (Fair.reads a b f) = Fair.reads a b (alike_fair (k _) f)
  alike_fair (Alike.writes x) (Fair.writes a b c e f) = Fair.writes a b c e (alike_fair x f)
  alike_fair (Alike.syncs x) (Fair.syncs a f) = Fair.syncs a (alike_fair x f)

  pub alike_ops : {p : Io A} {q : Io B} → Alike S p q → (d : Drives) → ops_of p d ≡ ops_of q d
  unfolding ops_of
  alike_ops (Alike.answers s) d = refl
  alike_ops (Alike.reads {i = i} {s = s} k) d = ap (λ n. 1 + n) (alike_ops (k (shown (d i) s)) d)
  alike_ops (Alike.writes x) d = ap (λ n. 1 + n) (alike_ops x _)
  alike_ops (Alike.syncs x) d = ap (λ n. 1 + n) (alike_ops x _)
