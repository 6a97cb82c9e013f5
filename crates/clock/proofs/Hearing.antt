-- Only telling the time is heard.
-- Assumes nothing.
use Rattle.std.proofs.Common.{◌≡◌, ℕ, Bool, true, cond, not, ◌&&◌, eqb, List, Ok, Err, Option, Result, refl, arith}
use Rattle.std.proofs.lemmas.Grind.{common_steps}
use Rattle.std.proofs.lemmas.Bool.{false≢true}
use Rattle.meaning.specs.Rooms.{Call, Tick}
use Rattle.meaning.specs.Does.{is_tick, small}
use Rattle.lines.specs.Turns.{number_of}
use Rattle.clock.specs.Spelled.{refusal_of}
use Rattle.lines.specs.Order.{only_time, heard, kind_of, lacks_kind, lacks_call, tells_time, call_within, or_no_call}

a_tick : (c : Call) → is_tick c ≡ true → (t : ℕ) × (c ≡ Tick t)
unfolding is_tick
a_tick (Tick t) e = (t, refl)
a_tick c e = absurd (false≢true e)

-- the tests of a line in their order, and the call that is in it
abbrev tested : (a b c d : Bool) → Option Call → Result Call ℕ
tested a b c d o = cond a (Err 12) (cond b (Err 12) (cond c (Err 10) (cond d (Err 8) (or_no_call o))))

built : (a c d : Bool) (o : Option Call) (x : Call) → tested a (lacks_call only_time o) c d o ≡ Ok x → is_tick x ≡ true
built a c d o x e = grind (arith, common_steps)

numbered : (a b c d : Bool) (o : Option Call) (k : ℕ) → tested a b c d o ≡ Err k → number_of (refusal_of k) ≡ k
numbered a b c d o k e = grind (arith, common_steps)

module _ (longest time next : ℕ) (l : List ℕ) where
  abbrev kind : Bool
  kind = lacks_kind only_time (kind_of l)

  abbrev untold : Bool
  untold = not (tells_time (kind_of l)) && eqb time 0

  abbrev used_up : Bool
  used_up = not (tells_time (kind_of l)) && not (small next)

  abbrev call : Option Call
  call = call_within longest l

  -- what is heard tells a time
  pub heard_ticks : (c : Call) → heard only_time longest l time next ≡ Ok c → (t : ℕ) × (c ≡ Tick t)
  heard_ticks c e = a_tick c (built kind untold used_up call c e)

  -- why a line is turned away: by one of the numbers of a refusal
  pub heard_number : (k : ℕ) → heard only_time longest l time next ≡ Err k → number_of (refusal_of k) ≡ k
  heard_number k e = numbered kind (lacks_call only_time call) untold used_up call k e
