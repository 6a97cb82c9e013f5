-- The rules by which steps are shown to go to a program, request by request, and turns to be a plan.
-- Assumes nothing.
use Rattle.std.specs.Prelude.{◌≡◌, ℕ, zero, suc, ◌≤◌, Bool, true, false, cond, List, [], refl}
use Rattle.std.proofs.Common.{ap, arith}
use Rattle.std.proofs.Math.Path.{fun_ext}
use Rattle.drives.specs.Drives.{Io, answer, read, write, sync, then'}
use Rattle.steps.specs.Steps.{Held, Stepped, sector_at}
use Rattle.steps.specs.Ties.{Goes}
use Rattle.steps.specs.declared.Lent.{Lent}
use Rattle.steps.specs.declared.Ask.TheVariants.{Read, Write, Sync, Again}

pub then_then : {A B C : Type 0} (p : Io A) (f : A → Io B) (g : B → Io C) → then' (then' p f) g ≡ then' p (λ a. then' (f a) g)
unfolding then'
then_then (answer a) f g = refl
then_then (read i s k) f g = ap (read i s) (fun_ext (λ b. then_then (k b) f g))
then_then (write i s b p) f g = ap (write i s b) (then_then p f g)
then_then (sync i p) f g = ap (sync i) (then_then p f g)

-- a test of the code and the same test of what is to be read
pub whether : {X Y : Type 0} (P : X → Y → Type 0) (v : Bool) {x y : X} {p q : Y} → (v ≡ true → P x p) → (v ≡ false → P y q) → P (cond v x y) (cond v p q)
whether P true d e = d refl
whether P false d e = e refl

-- Does f S n x p g: from the step x on, p is done, and then what g says of p's answer. With p and g apart, `then'` can stay shut.
pub record Does {M A B : Type 0} (f : Held M → List ℕ → Stepped M) (S : Held M → B → Type 0) (n : ℕ) (x : Stepped M) (p : Io A) (g : A → Io B) : Type 0 where
  pub go : Goes f S n x (then' p g)

module _ {M B : Type 0} {f : Held M → List ℕ → Stepped M} {S : Held M → B → Type 0} where
  -- more requests than enough are enough
  pub later : {x : Stepped M} {p : Io B} {m n : ℕ} → Goes f S m x p → m ≤ n → Goes f S n x p
  later {n = zero} (Goes.ends s) h = absurd (omega arith)
  later {n = suc n} (Goes.ends s) h = Goes.ends s
  later {n = zero} (Goes.reads k) h = absurd (omega arith)
  later {n = suc n} (Goes.reads k) h = Goes.reads (λ got. later (k got) (omega arith))
  later {n = zero} (Goes.writes e g) h = absurd (omega arith)
  later {n = suc n} (Goes.writes e g) h = Goes.writes e (later g (omega arith))
  later {n = zero} (Goes.syncs g) h = absurd (omega arith)
  later {n = suc n} (Goes.syncs g) h = Goes.syncs (later g (omega arith))
  later {n = zero} (Goes.again g) h = absurd (omega arith)
  later {n = suc n} (Goes.again g) h = Goes.again (later g (omega arith))

  module _ {A : Type 0} {g : A → Io B} where
    pub more : {x : Stepped M} {p : Io A} {m n : ℕ} → Does f S m x p g → m ≤ n → Does f S n x p g
    more d h = record { go = later d.go h }

    pub answers : {n : ℕ} {x : Stepped M} {a : A} → Goes f S n x (g a) → Does f S n x (answer a) g
    unfolding then'
    answers d = record { go = d }

    pub follows : {D : Type 0} {n : ℕ} {x : Stepped M} {p : Io D} (q : D → Io A) → Does f S n x p (λ b. then' (q b) g) → Does f S n x (then' p q) g
    follows {p = p} q d = record { go = rw (then_then p q g) d.go }

    pub reads : {n : ℕ} {me : M} {lent : Lent} {i s : ℕ} {k : List ℕ → Io A} → ((got : List ℕ) → Does f S n (f (record { me = me; lent = lent }) got) (k got) g) →
        Does f S (suc n) (record { me = me; lent = lent; ask = Read i s }) (read i s k) g
    unfolding then'
    reads d = record { go = Goes.reads (λ got. (d got).go) }

    pub writes : {n : ℕ} {me : M} {lent : Lent} {i s at : ℕ} {b : List ℕ} {p : Io A} → sector_at at lent ≡ b → Does f S n (f (record { me = me; lent = lent }) []) p g →
        Does f S (suc n) (record { me = me; lent = lent; ask = Write i s at }) (write i s b p) g
    unfolding then'
    writes e d = record { go = Goes.writes e d.go }

    pub syncs : {n : ℕ} {me : M} {lent : Lent} {i : ℕ} {p : Io A} → Does f S n (f (record { me = me; lent = lent }) []) p g →
        Does f S (suc n) (record { me = me; lent = lent; ask = Sync i }) (sync i p) g
    unfolding then'
    syncs d = record { go = Goes.syncs d.go }

    pub again : {n : ℕ} {me : M} {lent : Lent} {p : Io A} → Does f S n (f (record { me = me; lent = lent }) []) p g →
        Does f S (suc n) (record { me = me; lent = lent; ask = Again }) p g
    again d = record { go = Goes.again d.go }
