-- Layers compose: whatever a layer over a machine can show, it can show over the judge that the machine keeps to.
-- Assumes nothing.
use mathlib.Core.Path.{◌≡◌, refl, subst⁻¹, ◌∙◌}
use mathlib.Core.Logic.{inl, inr}
use mathlib.Core.Bool.{Bool}
use mathlib.Core.List.{List, [], ◌∷◌}
use Prim.Native.Nat.{ℕ}
use Rattle.drives.specs.Drives.{Drives, Ran, run, Upto, AfterCut}
use Rattle.drives.specs.Machines.{Machine, Event, World, Trace, Judge, Allowed, weak_after}
use Rattle.drives.specs.Layers.{Plan, Layer, through, over, Comes, CutShort, AboveEvent, Stands, Above, AllowedAbove, LayersCompose}
use Rattle.drives.proofs.Programs.{run_then, upto_then, upto_answer, upto_map}

-- A PLAN, CARRIED OUT BY A MACHINE

-- It went through: what the machine showed, and that its judge takes the plan to the same end.
record Carried {C R A : Type 0} (j : Judge C R) (e : Machine C R) (size : ℕ) (es : List (Event C R)) (ws : List ℕ) (p : Plan C R A) (r : Ran (record { value : A; below : e.Mem })) : Type 0 where
  events : List (Event C R)
  trace : Trace e size events ws (World.on r.value.below r.drives)
  comes : {t : j.State} {n : ℕ} → Allowed j size events t n → (s : j.State) × Allowed j size es s n × Comes j p s r.value.value t

-- It was cut short: where the judge was before, and that it is cut short too.
record Before {C R A : Type 0} (j : Judge C R) (size : ℕ) (es : List (Event C R)) (p : Plan C R A) (u : j.State) (n : ℕ) : Type 0 where
  state : j.State
  stretches : ℕ
  allowed : Allowed j size es state stretches
  short : CutShort j p state u
  none : n ≡ 0

record Broken {C R A : Type 0} (j : Judge C R) (e : Machine C R) (size : ℕ) (es : List (Event C R)) (ws : List ℕ) (p : Plan C R A) (g : Drives) : Type 0 where
  events : List (Event C R)
  trace : Trace e size events ws (World.off g)
  before : {u : j.State} {n : ℕ} → Allowed j size events u n → Before j size es p u n

-- where the latest event is known, so is what must have gone before
module _ {C R : Type 0} (j : Judge C R) (size : ℕ) {es : List (Event C R)} where
  called_before : {c : C} {r : R} {t : j.State} {n : ℕ} → Allowed j size (Event.called c r ∷ es) t n → (s : j.State) × Allowed j size es s n × j.Answers c s r t
  called_before (Allowed.answers {s = s} a h) = (s, a, h)

  cut_beside_lem : {A : Type 0} {p : Plan C R A} {u : j.State} {n : ℕ} → Allowed j size (Event.cut_else ∷ es) u n → Before j size es p u n
  cut_beside_lem (Allowed.fell {s = s} {n = n} a f) = record { state = s; stretches = n; allowed = a; short = CutShort.at_once f; none = refl }

  cut_in_call : {A : Type 0} {c : C} {k : R → Plan C R A} {u : j.State} {n : ℕ} → Allowed j size (Event.cut_in c ∷ es) u n → Before j size es (Plan.asks c k) u n
  cut_in_call (Allowed.was_cut {s = s} {n = n} a f) = record { state = s; stretches = n; allowed = a; short = CutShort.in_call f; none = refl }

  cut_later : {A : Type 0} {c : C} {r : R} {k : R → Plan C R A} {u : j.State} {n : ℕ} → Before j size (Event.called c r ∷ es) (k r) u n → Before j size es (Plan.asks c k) u n
  cut_later b =
      let (s, a, h) = called_before b.allowed in
      record { state = s; stretches = b.stretches; allowed = a; short = CutShort.later h b.short; none = b.none }

module _ {C R : Type 0} (j : Judge C R) (e : Machine C R) (size : ℕ) where
  carried : {A : Type 0} (p : Plan C R A) {es : List (Event C R)} {ws : List ℕ} {m : e.Mem} {d : Drives} → Trace e size es ws (World.on m d) → Carried j e size es ws p (run (through e p m) d)
  unfolding through run
  carried (Plan.gives a) {es} t = record { events = es; trace = t; comes = λ {t = s} b. (s, b, Comes.ends) }
  carried (Plan.asks c k) {es} {ws} {m} {d} t =
      let x = carried (k (run (e.does c m) d).value.reply) (Trace.answered c t) in
      subst⁻¹ (Carried j e size es ws (Plan.asks c k)) (run_then (e.does c m) (λ x. through e (k x.reply) x.mem) d)
      (record {
        events = x.events;
        trace = x.trace;
        comes = λ a. let (t, b, q) = x.comes a in let (s, b', h) = called_before j size b in (s, b', Comes.goes_on h q);
      })

  broken : {A : Type 0} (p : Plan C R A) {es : List (Event C R)} {ws : List ℕ} {m : e.Mem} {d f g : Drives} →
      Trace e size es ws (World.on m d) → Upto (through e p m) d f → AfterCut f g → Broken j e size es ws p g
  unfolding through
  broken (Plan.gives a) {es} {g = g} t u cut =
      record { events = Event.cut_else ∷ es; trace = Trace.between_cut t (subst⁻¹ (λ f. AfterCut f g) (upto_answer u) cut); before = cut_beside_lem j size }
  broken (Plan.asks c k) {es} {m = m} {d} t u cut =
      elim (upto_then (e.does c m) (λ x. through e (k x.reply) x.mem) u) [
        | inl v ↦ record { events = Event.cut_in c ∷ es; trace = Trace.call_cut c t v cut; before = cut_in_call j size }
        | inr v ↦
            let x = broken (k (run (e.does c m) d).value.reply) (Trace.answered c t) v cut in
            record { events = x.events; trace = x.trace; before = λ a. cut_later j size (x.before a) }
      ]

-- WHAT THE LAYER SHOWS

module _ {C R C' R' : Type 0} (j : Judge C R) (j' : Judge C' R') (e : Machine C R) (l : Layer C R C' R') (size : ℕ) where
  abbrev pub below : World (over e l) → World e
  below (World.off d) = World.off d
  below (World.on m d) = World.on m.below d

  abbrev pub stands : World (over e l) → j.State → Stands j l
  stands (World.off d) s = Stands.down s
  stands (World.on m d) s = Stands.up m.above s

  -- Over the judge the layer can come to stand so, and whatever is allowed of that is allowed of what the machine shows.
  pub record Seen (es : List (Event C' R')) (n : ℕ) (w : Stands j l) : Type 0 where
    pub events : List (AboveEvent C' R')
    pub above : Above j l size events w
    pub allowed : {s : j'.State} → AllowedAbove j' events s → Allowed j' size es s n

  -- The machine below can have come to where it is, and wherever its judge then is, there the layer can stand.
  pub record Lowered (es : List (Event C' R')) (ws : List ℕ) (w : World (over e l)) : Type 0 where
    pub events : List (Event C R)
    pub trace : Trace e size events ws (below w)
    pub seen : {s : j.State} {n : ℕ} → Allowed j size events s n → Seen es n (stands w s)

  -- the start
  start_allowed : {s : j'.State} → AllowedAbove j' [] s → Allowed j' size [] s 0
  start_allowed AllowedAbove.at_first = Allowed.at_first

  start_seen : {s : j.State} {n : ℕ} → Allowed j size [] s n → Seen [] n (Stands.down s)
  start_seen Allowed.at_first = record { events = []; above = Above.first; allowed = start_allowed }

  -- what only the machine below sees leaves the layer where it stands
  unseen : {es fs : List (Event C' R')} {n k : ℕ} {w : Stands j l} → Seen es n w → ((s : j'.State) → Allowed j' size es s n → Allowed j' size fs s k) → Seen fs k w
  unseen z f = record { events = z.events; above = z.above; allowed = λ {s} a. f s (z.allowed a) }

  module _ {es : List (Event C' R')} {ws : List ℕ} {w : World (over e l)} (x : Lowered es ws w) where
    lost_seen : {i : ℕ} {s : j.State} {n : ℕ} → Allowed j size (Event.lost i ∷ x.events) s n → Seen (Event.lost i ∷ es) n (stands w s)
    lost_seen (Allowed.a_loss a) = unseen (x.seen a) (λ s b. Allowed.a_loss b)

    replaced_seen : {i : ℕ} {s : j.State} {n : ℕ} → Allowed j size (Event.replaced i ∷ x.events) s n → Seen (Event.replaced i ∷ es) n (stands w s)
    replaced_seen (Allowed.a_new_one a) = unseen (x.seen a) (λ s b. Allowed.a_new_one b)

    mended_seen : {whole : Bool} {s : j.State} {n : ℕ} → Allowed j size (Event.mended whole ∷ x.events) s n → Seen (Event.mended whole ∷ es) n (stands w s)
    mended_seen (Allowed.works a h) = unseen (x.seen a) (λ s b. Allowed.works b h)
    mended_seen (Allowed.is_whole a) = unseen (x.seen a) (λ s b. Allowed.is_whole b)

  -- calls and cuts that the layer sees
  module _ {es : List (Event C' R')} {n : ℕ} {w : Stands j l} (z : Seen es n w) where
    did_allowed : {c : C'} {r : R'} {s : j'.State} → AllowedAbove j' (AboveEvent.did c r ∷ z.events) s → Allowed j' size (Event.called c r ∷ es) s n
    did_allowed (AllowedAbove.answers a q) = Allowed.answers (z.allowed a) q

    doing_allowed : {c : C'} {s : j'.State} → AllowedAbove j' (AboveEvent.cut_doing c ∷ z.events) s → Allowed j' size (Event.cut_in c ∷ es) s 0
    doing_allowed (AllowedAbove.was_cut a f) = Allowed.was_cut (z.allowed a) f

    beside_allowed : {s : j'.State} → AllowedAbove j' (AboveEvent.cut_beside ∷ z.events) s → Allowed j' size (Event.cut_else ∷ es) s 0
    beside_allowed (AllowedAbove.fell a f) = Allowed.fell (z.allowed a) f

  -- coming up
  rose : {es : List (Event C' R')} {ws : List ℕ} {d : Drives} {r : Ran (record { value : l.Mem; below : e.Mem })} (x : Lowered es ws (World.off d)) →
      Carried j e size x.events ws (l.comes_up size) r → Lowered es ws (World.on (record { below = r.value.below; above = r.value.value }) r.drives)
  rose x y =
      record {
        events = y.events;
        trace = y.trace;
        seen = λ a. let (s, b, q) = y.comes a in let z = x.seen b in record { events = z.events; above = Above.rises z.above q; allowed = z.allowed };
      }

  opened : {es : List (Event C' R')} {ws : List ℕ} {d : Drives} → Lowered es ws (World.off d) →
      Lowered es ws (World.on (run ((over e l).opens size) d).value (run ((over e l).opens size) d).drives)
  unfolding run
  opened {es} {ws} {d} x =
      subst⁻¹ (λ (r : Ran (over e l).Mem). Lowered es ws (World.on r.value r.drives))
      (run_then (e.opens size) _ d ∙ run_then (through e (l.comes_up size) (run (e.opens size) d).value) _ (run (e.opens size) d).drives)
      (rose x (carried j e size (l.comes_up size) (Trace.opened x.trace)))

  rise_cut : {es : List (Event C' R')} {ws : List ℕ} {d : Drives} (x : Lowered es ws (World.off d)) {s : j.State} {n : ℕ} →
      Before j size x.events (l.comes_up size) s n → Seen (Event.cut_else ∷ es) n (Stands.down s)
  rise_cut x b =
      let z = x.seen b.allowed in
      rw b.none (record { events = AboveEvent.cut_beside ∷ z.events; above = Above.rise_cut z.above b.short; allowed = beside_allowed z })

  opening_cut : {es : List (Event C' R')} {ws : List ℕ} {d f g : Drives} → Lowered es ws (World.off d) → Upto ((over e l).opens size) d f → AfterCut f g →
      Lowered (Event.cut_else ∷ es) ws (World.off g)
  opening_cut x u cut =
      elim (upto_then (e.opens size) _ u) [
        | inl v ↦ record { events = Event.cut_else ∷ x.events; trace = Trace.opening_cut x.trace v cut; seen = λ a. rise_cut x (cut_beside_lem j size a) }
        | inr v ↦
            let y = broken j e size (l.comes_up size) (Trace.opened x.trace) (upto_map _ _ v) cut in
            record { events = y.events; trace = y.trace; seen = λ a. rise_cut x (y.before a) }
      ]

  -- a call
  did : {es : List (Event C' R')} {ws : List ℕ} {m : (over e l).Mem} {d : Drives} (c : C') {r : Ran (record { value : record { reply : R'; mem : l.Mem }; below : e.Mem })} (x : Lowered es ws (World.on m d)) →
      Carried j e size x.events ws (l.answers c m.above) r →
      Lowered (Event.called c r.value.value.reply ∷ es) ws (World.on (record { below = r.value.below; above = r.value.value.mem }) r.drives)
  did c {r} x y =
      record {
        events = y.events;
        trace = y.trace;
        seen = λ a.
            let (s, b, q) = y.comes a in
            let z = x.seen b in
            record { events = AboveEvent.did c r.value.value.reply ∷ z.events; above = Above.does c r.value.value z.above q; allowed = did_allowed z };
      }

  answered : {es : List (Event C' R')} {ws : List ℕ} {m : (over e l).Mem} {d : Drives} (c : C') → Lowered es ws (World.on m d) →
      Lowered (Event.called c (run ((over e l).does c m) d).value.reply ∷ es) ws (World.on (run ((over e l).does c m) d).value.mem (run ((over e l).does c m) d).drives)
  unfolding run
  answered {es} {ws} {m} {d} c x =
      subst⁻¹ (λ (r : Ran (record { reply : R'; mem : (over e l).Mem })). Lowered (Event.called c r.value.reply ∷ es) ws (World.on r.value.mem r.drives))
      (run_then (through e (l.answers c m.above) m.below) _ d)
      (did c x (carried j e size (l.answers c m.above) x.trace))

  call_cut : {es : List (Event C' R')} {ws : List ℕ} {m : (over e l).Mem} {d f g : Drives} (c : C') → Lowered es ws (World.on m d) → Upto ((over e l).does c m) d f → AfterCut f g →
      Lowered (Event.cut_in c ∷ es) ws (World.off g)
  call_cut {m} c x u cut =
      let y = broken j e size (l.answers c m.above) x.trace (upto_map _ _ u) cut in
      record {
        events = y.events;
        trace = y.trace;
        seen = λ a.
            let b = y.before a in
            let z = x.seen b.allowed in
            rw b.none (record { events = AboveEvent.cut_doing c ∷ z.events; above = Above.does_cut c z.above b.short; allowed = doing_allowed z });
      }

  -- a cut while nothing is asked of the layer
  beside_seen : {es : List (Event C' R')} {ws : List ℕ} {m : (over e l).Mem} {d : Drives} (x : Lowered es ws (World.on m d)) {s : j.State} {n : ℕ} →
      Allowed j size (Event.cut_else ∷ x.events) s n → Seen (Event.cut_else ∷ es) n (Stands.down s)
  beside_seen x (Allowed.fell a f) =
      let z = x.seen a in
      record { events = AboveEvent.cut_beside ∷ z.events; above = Above.cut_now z.above f; allowed = beside_allowed z }

  -- mending
  mending : {es : List (Event C' R')} {ws : List ℕ} {m : (over e l).Mem} {d : Drives} → Lowered es ws (World.on m d) →
      Lowered (Event.mended (run ((over e l).mends m) d).value.whole ∷ es) (weak_after (run ((over e l).mends m) d).value.whole (run ((over e l).mends m) d).drives ws)
      (World.on (run ((over e l).mends m) d).value.mem (run ((over e l).mends m) d).drives)
  unfolding run
  mending {es} {ws} {m} {d} x =
      subst⁻¹ (λ (r : Ran (record { whole : Bool; mem : (over e l).Mem })). Lowered (Event.mended r.value.whole ∷ es) (weak_after r.value.whole r.drives ws) (World.on r.value.mem r.drives))
      (run_then (e.mends m.below) _ d)
      (record { events = Event.mended (run (e.mends m.below) d).value.whole ∷ x.events; trace = Trace.mending x.trace; seen = mended_seen x })

  pub lowered : {es : List (Event C' R')} {ws : List ℕ} {w : World (over e l)} → Trace (over e l) size es ws w → Lowered es ws w
  lowered Trace.begin = record { events = []; trace = Trace.begin; seen = start_seen }
  lowered (Trace.opened t) = opened (lowered t)
  lowered (Trace.opening_cut t u c) = opening_cut (lowered t) u c
  lowered (Trace.answered c t) = answered c (lowered t)
  lowered (Trace.call_cut c t u a) = call_cut c (lowered t) u a
  lowered (Trace.between_cut t c) = let x = lowered t in record { events = Event.cut_else ∷ x.events; trace = Trace.between_cut x.trace c; seen = beside_seen x }
  lowered (Trace.mending t) = mending (lowered t)
  lowered (Trace.mending_cut t u a) = let x = lowered t in record { events = Event.cut_else ∷ x.events; trace = Trace.mending_cut x.trace (upto_map _ _ u) a; seen = beside_seen x }
  lowered (Trace.loses_off i h k t) = let x = lowered t in record { events = Event.lost i ∷ x.events; trace = Trace.loses_off i h k x.trace; seen = lost_seen x }
  lowered (Trace.loses_on i h k t) = let x = lowered t in record { events = Event.lost i ∷ x.events; trace = Trace.loses_on i h k x.trace; seen = lost_seen x }
  lowered (Trace.replaces_off i h k t) = let x = lowered t in record { events = Event.replaced i ∷ x.events; trace = Trace.replaces_off i h k x.trace; seen = replaced_seen x }
  lowered (Trace.replaces_on i h k t) = let x = lowered t in record { events = Event.replaced i ∷ x.events; trace = Trace.replaces_on i h k x.trace; seen = replaced_seen x }

-- The machine's judge allows what it showed; so the layer can stand over that judge as it does, and what its own judge allows of that is what was seen.
pub layers_compose : LayersCompose
layers_compose C R C' R' j j' e l keeps above size lo hi es ws w t =
    let x = lowered (j size) (j' size) e l size t in
    let (s, n, a) = keeps size lo hi _ _ _ x.trace in
    let y = x.seen a in
    let (s', b) = above size lo hi _ _ y.above in
    (s', n, y.allowed b)
