-- A machine for which each step's obligation holds keeps to its judge and stays within bounds: the invariant is carried along all that can happen.
-- Assumes nothing.
use mathlib.Core.Path.{◌≡◌, refl}
use mathlib.Core.Bool.{Bool, true, false}
use mathlib.Core.List.{List, ◌∷◌}
use Prim.Native.Nat.{ℕ, suc, ◌<◌, ◌≤◌}
use native.Mathlib.Omega.{arith}
use Rattle.drives.specs.Drives.{smallest, largest, blank_drive, gone, there, Drives, Fair, ops_of}
use Rattle.drives.specs.Machines.{longest, Machine, Event, World, Trace, Judge, Allowed, KeepsBy, Keeps}
use Rattle.crash.specs.Refinement.{Few, Fallen, counted}
use Rattle.crash.specs.RefinementBy.{RefinesBy, BoundedBy, no_drive, Whole, RefinementBy, KeepsByAt}
use Rattle.crash.proofs.Weak.{few_after}
use Rattle.crash.proofs.Wholes.{whole_blank, whole_put, whole_after, fair_upto, fair_run}

module _ {C R : Type 0} (j : Judge C R) (e : Machine C R) (size most : ℕ) (Off : (j.State → Type 0) → List ℕ → Drives → Type 0) (On : j.State → ℕ → List ℕ → e.Mem → Drives → Type 0) (r : RefinesBy j e size most Off On) (b : BoundedBy j e size Off On) where
  -- While it is off, the states in P are possible; no stretch was made since the cut.
  pub record Resting (es : List (Event C R)) (ws : List ℕ) (d : Drives) : Type 1 where
    pub P : j.State → Type 0
    pub allowed : {s : j.State} → P s → Allowed j most es s 0
    pub few : Few ws
    pub whole : Whole d
    pub off : Off P ws d

  pub record Running (es : List (Event C R)) (ws : List ℕ) (m : e.Mem) (d : Drives) : Type 1 where
    pub state : j.State
    pub stretches : ℕ
    pub allowed : Allowed j most es state stretches
    pub few : Few ws
    pub whole : Whole d
    pub on : On state stretches ws m d

  abbrev pub Holding : List (Event C R) → List ℕ → World e → Type 1
  Holding es ws (World.off d) = Resting es ws d
  Holding es ws (World.on m d) = Running es ws m d

  mended : {es : List (Event C R)} {s : j.State} {n : ℕ} (whole : Bool) → (whole ≡ false → suc n < most) → Allowed j most es s n → Allowed j most (Event.mended whole ∷ es) s (counted whole n)
  mended true h a = Allowed.is_whole a
  mended false h a = Allowed.works a (h refl)

  module _ {es : List (Event C R)} {ws : List ℕ} {d : Drives} where
    fair_opening : Resting es ws d → Fair size (e.opens size) d
    fair_opening h = b.opening h.few h.whole h.off

    module _ {m : e.Mem} where
      fair_call : (c : C) → Running es ws m d → Fair size (e.does c m) d
      fair_call c h = b.calling c h.few h.whole h.on

      fair_mending : Running es ws m d → Fair size (e.mends m) d × (ops_of (e.mends m) d ≤ longest)
      fair_mending h = b.mending h.few h.whole h.on

  pub holding : {es : List (Event C R)} {ws : List ℕ} {w : World e} → Trace e size es ws w → Holding es ws w
  holding Trace.begin = record { P = λ s. s ≡ j.start; allowed = λ p. rw p Allowed.at_first; few = omega arith; whole = λ i. whole_blank; off = r.begins }
  holding (Trace.opened t) =
      let h = holding t in
      let (s, p, o) = (r.opens h.few h.off).ends in
      record { state = s; stretches = 0; allowed = h.allowed p; few = h.few; whole = fair_run (e.opens size) (fair_opening h) h.whole; on = o }
  holding (Trace.opening_cut {g = g} t u c) =
      let h = holding t in
      record { P = Fallen j h.P; allowed = λ (s, p, f). Allowed.fell (h.allowed p) f; few = h.few; whole = whole_after c (fair_upto (fair_opening h) h.whole u); off = (r.opens h.few h.off).always u g c }
  holding (Trace.answered {m = m} c t) =
      let h = holding t in
      let (s, a, o) = (r.calls c h.few h.on).ends in
      record { state = s; stretches = h.stretches; allowed = Allowed.answers h.allowed a; few = h.few; whole = fair_run (e.does c m) (fair_call c h) h.whole; on = o }
  holding (Trace.call_cut {g = g} c t u a) =
      let h = holding t in
      record { P = j.Cut c h.state; allowed = λ f. Allowed.was_cut h.allowed f; few = h.few; whole = whole_after a (fair_upto (fair_call c h) h.whole u); off = (r.calls c h.few h.on).always u g a }
  holding (Trace.between_cut {g = g} t a) =
      let h = holding t in
      record { P = j.Down h.state; allowed = λ f. Allowed.fell h.allowed f; few = h.few; whole = whole_after a h.whole; off = r.rests h.few h.on g a }
  holding (Trace.mending {ws = ws} {m = m} t) =
      let h = holding t in
      let (k, o) = (r.mends h.few h.whole h.on).ends in
      record { state = h.state; stretches = _; allowed = mended _ k h.allowed; few = few_after _ _ ws h.few; whole = fair_run (e.mends m) (fair_mending h).0 h.whole; on = o }
  holding (Trace.mending_cut {g = g} t u a) =
      let h = holding t in
      record { P = j.Down h.state; allowed = λ f. Allowed.fell h.allowed f; few = h.few; whole = whole_after a (fair_upto (fair_mending h).0 h.whole u); off = (r.mends h.few h.whole h.on).always u g a }
  holding (Trace.loses_off i b l t) =
      let h = holding t in record { P = h.P; allowed = λ p. Allowed.a_loss (h.allowed p); few = omega arith; whole = whole_put i gone no_drive h.whole; off = r.loses_off i b h.off }
  holding (Trace.loses_on i b l t) =
      let h = holding t in record { state = h.state; stretches = 0; allowed = Allowed.a_loss h.allowed; few = omega arith; whole = whole_put i gone no_drive h.whole; on = r.loses_on i b h.on }
  holding (Trace.replaces_off i b g t) =
      let h = holding t in record { P = h.P; allowed = λ p. Allowed.a_new_one (h.allowed p); few = h.few; whole = whole_put i (there blank_drive) whole_blank h.whole; off = r.replaces_off i b g h.off }
  holding (Trace.replaces_on i b g t) =
      let h = holding t in record { state = h.state; stretches = 0; allowed = Allowed.a_new_one h.allowed; few = h.few; whole = whole_put i (there blank_drive) whole_blank h.whole; on = r.replaces_on i b g h.on }

  pub state_of : (es : List (Event C R)) (ws : List ℕ) (w : World e) → Holding es ws w → (s : j.State) × (n : ℕ) × Allowed j most es s n
  state_of es ws (World.off d) h = let (s, p) = r.some_state h.few h.off in (s, 0, h.allowed p)
  state_of es ws (World.on m d) h = (h.state, h.stretches, h.allowed)

pub refined_keeps_by : (g : RefinementBy) → KeepsByAt g
refined_keeps_by g = (
  λ size lo hi es ws w t. state_of (g.j size) g.e size (g.most size) (g.Off size) (g.On size) (g.refines size lo hi) (g.bounded size lo hi) es ws w (along size lo hi t),
  λ size lo hi es ws. (
    λ d t. fair_opening (g.j size) g.e size (g.most size) (g.Off size) (g.On size) (g.refines size lo hi) (g.bounded size lo hi) (along size lo hi t),
    λ m d t. let h = along size lo hi t in let w = fair_mending (g.j size) g.e size (g.most size) (g.Off size) (g.On size) (g.refines size lo hi) (g.bounded size lo hi) h in (
      λ c. fair_call (g.j size) g.e size (g.most size) (g.Off size) (g.On size) (g.refines size lo hi) (g.bounded size lo hi) c h,
      w.0,
      w.1,
    ),
  ),
)
  where
    along : (size : ℕ) (lo : smallest ≤ size) (hi : size ≤ largest) {es : List (Event g.C g.R)} {ws : List ℕ} {w : World g.e} → Trace g.e size es ws w →
        Holding (g.j size) g.e size (g.most size) (g.Off size) (g.On size) (g.refines size lo hi) (g.bounded size lo hi) es ws w
    along size lo hi = holding (g.j size) g.e size (g.most size) (g.Off size) (g.On size) (g.refines size lo hi) (g.bounded size lo hi)

-- fewer stretches than a bound are fewer than a larger one
allowed_more : {C R : Type 0} {j : Judge C R} {most more : ℕ} → most ≤ more → {es : List (Event C R)} {s : j.State} {n : ℕ} → Allowed j most es s n → Allowed j more es s n
allowed_more l Allowed.at_first = Allowed.at_first
allowed_more l (Allowed.answers a r) = Allowed.answers (allowed_more l a) r
allowed_more l (Allowed.was_cut a r) = Allowed.was_cut (allowed_more l a) r
allowed_more l (Allowed.fell a r) = Allowed.fell (allowed_more l a) r
allowed_more l (Allowed.works a k) = Allowed.works (allowed_more l a) (omega arith)
allowed_more l (Allowed.is_whole a) = Allowed.is_whole (allowed_more l a)
allowed_more l (Allowed.a_loss a) = Allowed.a_loss (allowed_more l a)
allowed_more l (Allowed.a_new_one a) = Allowed.a_new_one (allowed_more l a)

pub keeps_sooner : {C R : Type 0} {j : ℕ → Judge C R} {e : Machine C R} {most : ℕ → ℕ} → ((size : ℕ) → smallest ≤ size → most size ≤ size) → KeepsBy most j e → Keeps j e
keeps_sooner l k size lo hi es ws w t = let (s, n, a) = k size lo hi es ws w t in (s, n, allowed_more (l size lo) a)
