-- A layer in code over a machine in code: the steps of both, and what ties the layer to a layer that is written to be read.
-- Assumes nothing.
use Rattle.std.specs.Prelude.{◌≡◌, ℕ, suc, ◌+◌, ◌*◌, ◌≤◌, List, Some, None, Option}
use Rattle.drives.specs.Drives.{smallest, largest}
use Rattle.drives.specs.Layers.{Plan, gives, asks, Layer}
use Rattle.steps.specs.Steps.{Held, Stepped, Stepping}
use Rattle.steps.specs.declared.Lent.{Lent}
use Rattle.steps.specs.declared.Ask.{Ask}
use Rattle.steps.specs.declared.Ask.TheVariants.{Read, Write, Sync, Again, Done}
use Rattle.steps.specs.declared.Doing.{Doing}
use Rattle.steps.specs.declared.Doing.TheVariants.{Opens, Begun, Waits, Mends}
use Rattle.steps.specs.declared.Stack.{Stack}

-- the state of a layer, with the next call of the machine below, none where it is done
pub record Asked (U C : Type 0) : Type 0 where
  pub me : U
  pub next : Option C

-- What the code of a layer does, function by function, to a state U. It answers calls C' by replies R', through calls C that are answered by R.
-- A turn gets what the last call below was answered, and nothing at first.
pub record Planning (C R C' R' U : Type 0) : Type 0 where
  pub turns : U → Option R → Asked U C
  pub rising : (size : ℕ) → U
  pub starts : C' → U → U
  pub says : U → R'

module _ {U L C R C' R' : Type 0} (p : Planning C R C' R' U) (s : Stepping C R L) where
  abbrev pub goes_on : Option C → U → L → Lent → Stepped (Stack U L)
  goes_on (Some c) u l lent = record { me = record { upper = u; lower = s.starts c l; doing = Waits }; lent = lent; ask = Again }
  goes_on None u l lent = record { me = record { upper = u; lower = l; doing = Waits }; lent = lent; ask = Done }

  -- a turn of the layer
  abbrev pub turn : Asked U C → L → Lent → Stepped (Stack U L)
  turn y l lent = goes_on y.next y.me l lent

  -- the machine below is done
  abbrev pub on_done : Doing → U → L → Lent → Stepped (Stack U L)
  on_done Opens u l lent = turn (p.turns u None) l lent
  on_done Begun u l lent = turn (p.turns u None) l lent
  on_done Waits u l lent = turn (p.turns u (Some (s.says l))) l lent
  on_done Mends u l lent = record { me = record { upper = u; lower = l; doing = Mends }; lent = lent; ask = Done }

  -- what the machine below asks for is asked for
  abbrev pub lifts : Ask → Doing → U → L → Lent → Stepped (Stack U L)
  lifts (Read i n) o u l lent = record { me = record { upper = u; lower = l; doing = o }; lent = lent; ask = Read i n }
  lifts (Write i n at) o u l lent = record { me = record { upper = u; lower = l; doing = o }; lent = lent; ask = Write i n at }
  lifts (Sync i) o u l lent = record { me = record { upper = u; lower = l; doing = o }; lent = lent; ask = Sync i }
  lifts Again o u l lent = record { me = record { upper = u; lower = l; doing = o }; lent = lent; ask = Again }
  lifts Done o u l lent = on_done o u l lent

  abbrev pub lifted : Doing → U → Stepped L → Stepped (Stack U L)
  lifted o u x = lifts x.ask o u x.me x.lent

  abbrev pub step_in : Doing → U → L → Lent → List ℕ → Stepped (Stack U L)
  step_in Opens u l lent got = lifted Opens u (s.steps (record { me = l; lent = lent }) got)
  step_in Begun u l lent got = turn (p.turns u None) l lent
  step_in Waits u l lent got = lifted Waits u (s.steps (record { me = l; lent = lent }) got)
  step_in Mends u l lent got = lifted Mends u (s.steps (record { me = l; lent = lent }) got)

  -- THE STEPS OF BOTH
  abbrev pub stack_of : Stepping C' R' (Stack U L)
  stack_of =
      record {
        steps = λ h got. step_in h.me.doing h.me.upper h.me.lower h.lent got;
        opening = λ size. record { upper = p.rising size; lower = s.opening size; doing = Opens };
        starts = λ c h. record { upper = p.starts c h.upper; lower = h.lower; doing = Begun };
        mending = λ h. record { upper = h.upper; lower = s.mending h.lower; doing = Mends };
        says = λ h. p.says h.upper;
        whole = λ h. s.whole h.lower;
      }

-- Plans f T n y q: from what was asked in y on, the turns f ask for just what the plan q does, come to their end within n turns, and end at a state that T ties to what q gives.
pub data Plans {C R U A : Type 0} (f : U → Option R → Asked U C) (T : U → A → Type 0) : ℕ → Asked U C → Plan C R A → Type 0 where
  ends : {n : ℕ} {me : U} {a : A} → T me a → Plans f T (suc n) (record { me = me; next = None }) (gives a)
  calls : {n : ℕ} {me : U} {c : C} {k : R → Plan C R A} → ((r : R) → Plans f T n (f me (Some r)) (k r)) → Plans f T (suc n) (record { me = me; next = Some c }) (asks c k)

-- The code p is the readable layer l on drives of a size, where n turns are enough for whatever it is asked. T says which state of the code stands for which memory of l between calls.
pub record Planned {C R C' R' U : Type 0} (p : Planning C R C' R' U) (n size : ℕ) (l : Layer C R C' R') (T : U → l.Mem → Type 0) : Type 0 where
  pub rises : Plans p.turns T n (p.turns (p.rising size) None) (l.comes_up size)
  pub answers : (c : C') (u : U) (m : l.Mem) → T u m → Plans p.turns (λ v x. (p.says v ≡ x.reply) × T v x.mem) n (p.turns (p.starts c u) None) (l.answers c m)

-- the same on drives of every size
abbrev pub PlannedAll : {C R C' R' U : Type 0} (p : Planning C R C' R' U) (n : ℕ) (l : Layer C R C' R') → (ℕ → U → l.Mem → Type 0) → Type 0
PlannedAll p n l T = (size : ℕ) → smallest ≤ size → size ≤ largest → Planned p n size l (T size)

-- what the state of a stack stands for
abbrev pub Both : {U L A B : Type 0} → (U → A → Type 0) → (Held L → B → Type 0) → Held (Stack U L) → record { below : B; above : A } → Type 0
Both T S h m = S (record { me = h.me.lower; lent = h.lent }) m.below × T h.me.upper m.above

-- how many requests are enough for both, where n are for each call below and k turns for the layer
abbrev pub enough : ℕ → ℕ → ℕ
enough k n = n + (k * (n + 1) + 1)
