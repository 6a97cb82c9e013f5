-- Layers stay within: wherever a layer over a machine can come to, the machine can, and it is only the machine that asks for anything.
-- Assumes nothing.
use mathlib.Core.Path.{subst⁻¹}
use mathlib.Core.List.{List}
use Prim.Native.Nat.{ℕ, ◌≤◌}
use Rattle.drives.specs.Drives.{smallest, largest, Drives, run, Fair}
use Rattle.drives.specs.Machines.{longest, Machine, Event, World, Trace, Judge, Within}
use Rattle.drives.specs.Layers.{Plan, through, LayersStayWithin}
use Rattle.drives.proofs.Programs.{fair_then, ops_map}
use Rattle.drives.proofs.Layers.{lowered}

-- a judge that allows all: here only the traces matter
abbrev anything : (C R : Type 0) → Judge C R
anything C R = record { State = Unit {0}; start = tt; Answers = λ c s r t. Unit {0}; Down = λ s t. Unit {0}; Cut = λ c s t. Unit {0} }

module _ {C R : Type 0} (e : Machine C R) (size : ℕ) (within : Within e) (lo : smallest ≤ size) (hi : size ≤ largest) where
  fair_through : {A : Type 0} (p : Plan C R A) {es : List (Event C R)} {ws : List ℕ} {m : e.Mem} {d : Drives} → Trace e size es ws (World.on m d) → Fair size (through e p m) d
  unfolding through
  fair_through (Plan.gives a) {d = d} t = Fair.ends _ d
  fair_through (Plan.asks c k) {es} {ws} {m} {d} t =
      fair_then (e.does c m) _ d (((within size lo hi es ws).1 m d t).0 c) (fair_through (k (run (e.does c m) d).value.reply) (Trace.answered c t))

pub layers_stay_within : LayersStayWithin
unfolding run
layers_stay_within C R C' R' e l within size lo hi es ws = (
  λ d t.
      let x = lowered (anything C R) (anything C' R') e l size t in
      fair_then (e.opens size) _ d ((within size lo hi _ ws).0 d x.trace)
      (fair_then _ _ _ (fair_through e size within lo hi (l.comes_up size) (Trace.opened x.trace)) (Fair.ends _ _)),
  λ m d t.
      let x = lowered (anything C R) (anything C' R') e l size t in
      let w = (within size lo hi _ ws).1 m.below d x.trace in (
        λ c. fair_then _ _ _ (fair_through e size within lo hi (l.answers c m.above) x.trace) (Fair.ends _ _),
        fair_then _ _ _ w.1 (Fair.ends _ _),
        subst⁻¹ (λ n. n ≤ longest) (ops_map (e.mends m.below) _ d) w.2,
      ),
)
