-- The steps of a layer in code over a machine in code are the readable layer over the readable machine.
-- Assumes nothing.
use Rattle.std.specs.Prelude.{◌≡◌, ℕ, suc, ◌+◌, ◌*◌, List, [], refl}
use Rattle.std.proofs.Math.Nat.{suc-mul}
use Rattle.std.proofs.Common.{arith}
use Rattle.drives.specs.Drives.{Io, then'}
use Rattle.drives.specs.Machines.{Machine}
use Rattle.drives.specs.Layers.{Plan, Layer, through, over}
use Rattle.steps.specs.Steps.{Held, Stepped, Stepping}
use Rattle.steps.specs.Ties.{Goes, Tied}
use Rattle.steps.specs.Stacks.{Asked, Planning, Plans, Planned, turn, on_done, lifted, stack_of, Both, enough}
use Rattle.steps.specs.declared.Lent.{Lent}
use Rattle.steps.specs.declared.Ask.TheVariants.{Done}
use Rattle.steps.specs.declared.Doing.{Doing}
use Rattle.steps.specs.declared.Doing.TheVariants.{Opens, Waits, Mends}
use Rattle.steps.specs.declared.Stack.{Stack}
use Rattle.steps.specs.Does.{then_then, later}

module _ {U L C R C' R' : Type 0} (p : Planning C R C' R' U) (s : Stepping C R L) where
  abbrev steps : Held (Stack U L) → List ℕ → Stepped (Stack U L)
  steps = (stack_of p s).steps

  -- what a stack is that waits for the machine below
  abbrev at : Doing → U → L → Lent → Held (Stack U L)
  at o u l lent = record { me = record { upper = u; lower = l; doing = o }; lent = lent }

  module _ {B : Type 0} {Z : Held (Stack U L) → B → Type 0} (m : ℕ) (o : Doing) (u : U)
      (stepped : (l : L) (lent : Lent) (got : List ℕ) → steps (at o u l lent) got ≡ lifted p s o u (s.steps (record { me = l; lent = lent }) got)) where
    -- the machine below does what it was asked, and then the stack goes on
    below : {A : Type 0} {S : Held L → A → Type 0} {n : ℕ} {x : Stepped L} {q : Io A} (g : A → Io B) → Goes s.steps S n x q →
        ((h : Held L) (a : A) → S h a → Goes steps Z m (on_done p s o u h.me h.lent) (g a)) → Goes steps Z (n + m) (lifted p s o u x) (then' q g)
    unfolding then'
    below g (Goes.ends t) rest = later (rest _ _ t) (omega arith)
    below g (Goes.reads {n = n} k) rest = later {m = suc (n + m)} (Goes.reads (λ got. rw (stepped _ _ got) (below g (k got) rest))) (omega arith)
    below g (Goes.writes {n = n} e x) rest = later {m = suc (n + m)} (Goes.writes e (rw (stepped _ _ []) (below g x rest))) (omega arith)
    below g (Goes.syncs {n = n} x) rest = later {m = suc (n + m)} (Goes.syncs (rw (stepped _ _ []) (below g x rest))) (omega arith)
    below g (Goes.again {n = n} x) rest = later {m = suc (n + m)} (Goes.again (rw (stepped _ _ []) (below g x rest))) (omega arith)

  module _ {n size : ℕ} {e : Machine C R} {S : Held L → e.Mem → Type 0} (t : Tied s n size e S) {A B : Type 0} {T : U → A → Type 0} {Z : Held (Stack U L) → B → Type 0} (g : record { value : A; below : e.Mem } → Io B)
      (rest : (u : U) (h : Held L) (a : A) (m : e.Mem) → T u a → S h m → Goes steps Z 1 (record { me = record { upper = u; lower = h.me; doing = Waits }; lent = h.lent; ask = Done }) (g (record { value = a; below = m }))) where
    -- the turns of the layer are its plan, through the machine below
    above : {k : ℕ} {y : Asked U C} {q : Plan C R A} → Plans p.turns T k y q → (l : L) (lent : Lent) (m : e.Mem) → S (record { me = l; lent = lent }) m →
        Goes steps Z (k * (n + 1) + 1) (turn p s y l lent) (then' (through e q m) g)
    unfolding then' through
    above (Plans.ends x) l lent m st = later (rest _ _ _ m x st) (omega arith)
    above (Plans.calls {n = k} {me = u} {c = c} {k = q} x) l lent m st =
        let i = suc-mul k (n + 1) in
        later {m = suc (n + (k * (n + 1) + 1))}
        (Goes.again (rw (then_then (e.does c m) _ g)
        (below (k * (n + 1) + 1) Waits u (λ l lent got. refl) _ (t.does c _ m st) (λ h z r. rw (← r.0) (above (x (s.says h.me)) h.me h.lent z.mem r.1)))))
        (omega arith)

-- THE STACK: the code of both is the readable layer over the readable machine
pub stacked : {U L C R C' R' : Type 0} {p : Planning C R C' R' U} {s : Stepping C R L} {k n size : ℕ} {l : Layer C R C' R'} {e : Machine C R} {T : U → l.Mem → Type 0} {S : Held L → e.Mem → Type 0} →
    Planned p k size l T → Tied s n size e S → Tied (stack_of p s) (enough k n) size (over e l) (Both T S)
stacked {p = p} {s = s} {k = k} {n = n} {size = size} b t =
    record {
      opens =
          below p s (k * (n + 1) + 1) Opens (p.rising size) (λ l lent got. refl) _ t.opens (λ h m st.
          above p s t _ (λ u h a m x y. Goes.ends (y, x)) b.rises h.me h.lent m st);
      does = λ c h m st. later
          (above p s t _ (λ u h a m x y. Goes.ends (x.0, (y, x.1))) (b.answers c h.me.upper m.above st.1) h.me.lower h.lent m.below st.0)
          (omega arith);
      mends = λ h m st. later
          (below p s 1 Mends h.me.upper (λ l lent got. refl) _ (t.mends _ m.below st.0) (λ h x r. Goes.ends (r.0, (r.1, st.1))))
          (omega arith);
    }
