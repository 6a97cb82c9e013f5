-- The clock keeps to the meaning: the register has the time, and there is nothing else yet.
-- Assumes nothing.
use Rattle.std.proofs.Common.{◌≡◌, ℕ, ◌<◌, Bool, true, false, ◌&&◌, ltb, List, [], Ok, Err, Result, refl, ap, ◌∙◌, arith}
use Rattle.std.proofs.lemmas.Bool.Decides.{nat_tests as tests}
use Rattle.drives.specs.Machines.{DoneOrNot}
use Rattle.drives.specs.Layers.{Plan, Comes, CutShort}
use Rattle.drives.specs.Simulation.{Holds}
use Rattle.drives.proofs.Simulation.{keeps_above}
use Rattle.register.specs.declared.Payload.{Payload}
use Rattle.register.specs.declared.Call.{Call}
use Rattle.register.specs.declared.Reply.{Reply}
use Rattle.register.specs.Register.{register, kept, sets, gets}
use Rattle.meaning.specs.Rooms as meaning
use Rattle.meaning.specs.Does.{does, acts, is_tick, small, later, down}
use Rattle.lines.specs.Order.{only_time, heard, tag_of, carried_out}
use Rattle.promise.specs.Promise as promise
use Rattle.clock.specs.Clock.{tells_if, answers_to}
use Rattle.clock.specs.Spelled.{heard_as, Written, told_bytes, retold, clock, ClockKeeps}
use Rattle.clock.proofs.Hearing.{heard_ticks, heard_number}

-- the state of a house in which only times were told
abbrev at : ℕ → meaning.State
at m = record { now = m; next = 1; rooms = [] }

-- the register has the time of the meaning, which is in range
pub record Off (s : Payload) (a : meaning.State) : Type 0 where
  pub is : a ≡ at s.time
  pub low : s.time < 4611686018427387904

pub record On (m : ℕ) (s : Payload) (a : meaning.State) : Type 0 where
  pub has : m ≡ s.time
  pub off : Off s a

-- a time in range is kept as it is
kept_same : (n : ℕ) → n < 4611686018427387904 → kept (record { time = n }) ≡ record { time = n }
kept_same n h = ap (λ k. record { time = k }) (omega arith)

-- the meaning of telling a time in range
ticks : (t m : ℕ) → small t && ltb 0 t ≡ true → does (meaning.Tick t) (at m) ≡ record { reply = meaning.Yes; state = at (later t m) }
unfolding acts is_tick
ticks t m h = grind (arith, tests)

ticks_not : (t m : ℕ) → small t && ltb 0 t ≡ false → does (meaning.Tick t) (at m) ≡ record { reply = meaning.No 1; state = at m }
unfolding acts is_tick
ticks_not t m h = grind (arith, tests)

later_low : (t m : ℕ) → small t && ltb 0 t ≡ true → m < 4611686018427387904 → later t m < 4611686018427387904
later_low t m h k = grind (arith, tests)

module _ (longest size : ℕ) where
  -- what a call comes to: an answer that is allowed, and the register and the memory go with the state after it
  abbrev Answered : List ℕ → meaning.State → Written → Payload → Type 0
  Answered l a x t = (b : meaning.State) × promise.Answers only_time longest size l a x.reply b × On x.mem t b

  -- the state is known by the memory
  here : {l : List ℕ} {m : ℕ} {s t : Payload} {a : meaning.State} {x : Written} → On m s a → Answered l (at m) x t → Answered l a x t
  here o w = rw (o.off.is, ← o.has) w

  stands : {m : ℕ} {s : Payload} {a : meaning.State} → On m s a → On m s (at m)
  stands o = record { has = o.has; off = record { is = ap at o.has; low = o.off.low } }

  -- the answer that the meaning gives to what was heard
  heard_so : (l : List ℕ) (m : ℕ) (r : Result meaning.Call ℕ) → heard only_time longest l m 1 ≡ r →
      promise.Answers only_time longest size l (at m) (promise.reply_to l (carried_out r (at m)).reply) (carried_out r (at m)).state
  heard_so l m r e = rw (← e) (promise.says_so l (at m))

  refused : (l : List ℕ) (k m : ℕ) {s : Payload} {a : meaning.State} → On m s a → heard only_time longest l m 1 ≡ Err k → Answered l a (record { reply = promise.reply_to l (meaning.No k); mem = m }) s
  refused l k m o e = here o (at m, heard_so l m (Err k) e, stands o)

  told : (l : List ℕ) (t m : ℕ) {s : Payload} {a : meaning.State} → On m s a → heard only_time longest l m 1 ≡ Ok (meaning.Tick t) → small t && ltb 0 t ≡ true →
      Answered l a (record { reply = promise.reply_to l meaning.Yes; mem = later t m }) (kept (record { time = later t m }))
  told l t m o e h =
      let b = later_low t m h (omega arith) in
      here o (
        at (later t m),
        rw (ticks t m h) at (heard_so l m (Ok (meaning.Tick t)) e),
        rw (kept_same (later t m) b) (record { has = refl; off = record { is = refl; low = b } }),
      )

  out_of_range : (l : List ℕ) (t m : ℕ) {s : Payload} {a : meaning.State} → On m s a → heard only_time longest l m 1 ≡ Ok (meaning.Tick t) → small t && ltb 0 t ≡ false →
      Answered l a (record { reply = promise.reply_to l (meaning.No 1); mem = m }) s
  out_of_range l t m o e h =
      here o (at m, rw (ticks_not t m h) at (heard_so l m (Ok (meaning.Tick t)) e), stands o)

  -- WHOLE CALLS

  tell : (b : Bool) (l : List ℕ) (t m : ℕ) {x : Written} {s u : Payload} {a : meaning.State} → small t && ltb 0 t ≡ b → On m s a → heard only_time longest l m 1 ≡ Ok (meaning.Tick t) →
      Comes (register size) (retold (tells_if b (tag_of l) t m)) s x u → Answered l a x u
  unfolding retold told_bytes promise.reply_to
  tell true l t m h o e (Comes.goes_on (sets p s) Comes.ends) = told l t m o e h
  tell false l t m h o e Comes.ends = out_of_range l t m o e h

  abbrev planned : Result meaning.Call ℕ → List ℕ → ℕ → Plan Call Reply Written
  planned r l m = retold (answers_to (heard_as r) (tag_of l) m)

  call : (r : Result meaning.Call ℕ) (l : List ℕ) (m : ℕ) {x : Written} {s u : Payload} {a : meaning.State} → On m s a → heard only_time longest l m 1 ≡ r → Comes (register size) (planned r l m) s x u → Answered l a x u
  unfolding retold told_bytes promise.reply_to
  call (Err k) l m o e Comes.ends = rw (heard_number longest m 1 l k e) (refused l k m o e)
  call (Ok c) l m o e q =
      let (t, f) = heard_ticks longest m 1 l c e in
      tell (small t && ltb 0 t) l t m refl o (e ∙ ap (λ d. Ok d) f) (rw f at q)

  -- CALLS CUT SHORT

  -- the call was done or not, and the register is as the state after the cut
  abbrev Broken : List ℕ → meaning.State → Payload → Type 0
  Broken l a u = (b : meaning.State) × DoneOrNot (promise.Answers only_time longest size) down l a b × Off u b

  not_done : {l : List ℕ} {m : ℕ} {s u : Payload} {a : meaning.State} → On m s a → u ≡ s → Broken l a u
  not_done {a = a} o e = (a, DoneOrNot.undone refl, rw e o.off)

  was_done : {l : List ℕ} {x : Written} {t u : Payload} {a : meaning.State} → Answered l a x t → u ≡ t → Broken l a u
  was_done (b, w, o) e = (b, DoneOrNot.done w refl, rw e o.off)

  tell_cut : (b : Bool) (l : List ℕ) (t m : ℕ) {s u : Payload} {a : meaning.State} → small t && ltb 0 t ≡ b → On m s a → heard only_time longest l m 1 ≡ Ok (meaning.Tick t) →
      CutShort (register size) (retold (tells_if b (tag_of l) t m)) s u → Broken l a u
  unfolding retold
  tell_cut true l t m h o e (CutShort.at_once f) = not_done o f
  tell_cut true l t m h o e (CutShort.in_call (DoneOrNot.undone f)) = not_done o f
  tell_cut true l t m h o e (CutShort.in_call (DoneOrNot.done (sets p s) f)) = was_done (told l t m o e h) f
  tell_cut true l t m h o e (CutShort.later (sets p s) (CutShort.at_once f)) = was_done (told l t m o e h) f
  tell_cut false l t m h o e (CutShort.at_once f) = not_done o f

  call_cut : (r : Result meaning.Call ℕ) (l : List ℕ) (m : ℕ) {s u : Payload} {a : meaning.State} → On m s a → heard only_time longest l m 1 ≡ r → CutShort (register size) (planned r l m) s u → Broken l a u
  unfolding retold
  call_cut (Err k) l m o e (CutShort.at_once f) = not_done o f
  call_cut (Ok c) l m o e q =
      let (t, f) = heard_ticks longest m 1 l c e in
      tell_cut (small t && ltb 0 t) l t m refl o (e ∙ ap (λ d. Ok d) f) (rw f at q)

  -- COMING UP

  rises : {s t : Payload} {m : ℕ} {a : meaning.State} → Off s a → Comes (register size) ((clock longest).comes_up size) s m t → On m t a
  rises o (Comes.goes_on (gets s) Comes.ends) = record { has = refl; off = o }

  same : {s u : Payload} {a : meaning.State} → Off s a → u ≡ s → (b : meaning.State) × (b ≡ down a) × Off u b
  same {a = a} o e = (a, refl, rw e o)

  rise_cut : {s u : Payload} {a : meaning.State} → Off s a → CutShort (register size) ((clock longest).comes_up size) s u → (b : meaning.State) × (b ≡ down a) × Off u b
  rise_cut o (CutShort.at_once f) = same o f
  rise_cut o (CutShort.in_call (DoneOrNot.undone f)) = same o f
  rise_cut o (CutShort.in_call (DoneOrNot.done (gets s) f)) = same o f
  rise_cut o (CutShort.later (gets s) (CutShort.at_once f)) = same o f

  holds : Holds (register size) (promise.house only_time longest size) (clock longest) size Off On
  holds =
      record {
        begins = record { is = refl; low = omega arith };
        rises = rises;
        rise_cut = rise_cut;
        call = λ l {x} {s} {t} {m} o q. call (heard only_time longest l m 1) l m o refl q;
        call_cut = λ l {s} {u} {m} o q. call_cut (heard only_time longest l m 1) l m o refl q;
        falls = λ o f. same o.off f;
      }

pub clock_keeps : ClockKeeps
clock_keeps longest = keeps_above (λ size lo hi. holds longest size)
