-- Whatever can happen to a machine in code can happen to the readable machine that it is tied to.
-- Assumes nothing.
use Rattle.std.proofs.Common.{◌≡◌, ℕ, ◌≤◌, Bool, List, ◌∷◌}
use Rattle.drives.specs.Drives.{Drives, Ran}
use Rattle.drives.specs.Machines.{Machine, Event, World, Trace, Judge, weak_after}
use Rattle.steps.specs.Steps.{Held, Stepping, machine_of}
use Rattle.steps.specs.Ties.{Tied, TiedAll, CodeKeeps, CodeWithin}
use Rattle.steps.proofs.Alike.{Alike, Same, goes_runs, alike_map, alike_run, alike_upto, alike_fair, alike_ops}

-- Two machines whose programs are alike, where S says which memory of one stands for which of the other.
pub record Mirrors {C R : Type 0} (e r : Machine C R) (size : ℕ) (S : e.Mem → r.Mem → Type 0) : Type 0 where
  pub opens : Alike S (e.opens size) (r.opens size)
  pub does : (c : C) (h : e.Mem) (m : r.Mem) → S h m → Alike (λ x y. (x.reply ≡ y.reply) × S x.mem y.mem) (e.does c h) (r.does c m)
  pub mends : (h : e.Mem) (m : r.Mem) → S h m → Alike (λ x y. (x.whole ≡ y.whole) × S x.mem y.mem) (e.mends h) (r.mends m)

pub tied_mirrors : {C R M : Type 0} {s : Stepping C R M} {n size : ℕ} {e : Machine C R} {S : Held M → e.Mem → Type 0} → Tied s n size e S → (b : ℕ) → n ≤ b → Mirrors (machine_of s b) e size S
tied_mirrors t b h =
    record {
      opens = goes_runs t.opens b h;
      does = λ c g m s. alike_map _ (λ a b x. x) (goes_runs (t.does c g m s) b h);
      mends = λ g m s. alike_map _ (λ a b x. x) (goes_runs (t.mends g m s) b h);
    }

module _ {C R : Type 0} {e r : Machine C R} {size : ℕ} {S : e.Mem → r.Mem → Type 0} (t : Mirrors e r size S) where
  -- where the readable machine can be when e is at a world
  data Seen (es : List (Event C R)) (ws : List ℕ) : World e → Type 0 where
    offs : {d : Drives} → Trace r size es ws (World.off d) → Seen es ws (World.off d)
    ons : {h : e.Mem} {m : r.Mem} {d : Drives} → S h m → Trace r size es ws (World.on m d) → Seen es ws (World.on h d)

  somewhere : {es : List (Event C R)} {ws : List ℕ} {w : World e} → Seen es ws w → (v : World r) × Trace r size es ws v
  somewhere (Seen.offs x) = (_, x)
  somewhere (Seen.ons s x) = (_, x)

  at_opened : {es : List (Event C R)} {ws : List ℕ} (x : Ran e.Mem) (y : Ran r.Mem) → Same S x y → Trace r size es ws (World.on y.value y.drives) → Seen es ws (World.on x.value x.drives)
  at_opened x y s z = Seen.ons s.values (rw (← s.drives) z)

  at_answered : {es : List (Event C R)} {ws : List ℕ} (c : C) (x : Ran (record { reply : R; mem : e.Mem })) (y : Ran (record { reply : R; mem : r.Mem })) →
      Same (λ x y. (x.reply ≡ y.reply) × S x.mem y.mem) x y → Trace r size (Event.called c y.value.reply ∷ es) ws (World.on y.value.mem y.drives) →
      Seen (Event.called c x.value.reply ∷ es) ws (World.on x.value.mem x.drives)
  at_answered c x y s z = Seen.ons s.values.1 (rw (s.values.0, ← s.drives) z)

  at_mended : {es : List (Event C R)} (ws : List ℕ) (x : Ran (record { whole : Bool; mem : e.Mem })) (y : Ran (record { whole : Bool; mem : r.Mem })) →
      Same (λ x y. (x.whole ≡ y.whole) × S x.mem y.mem) x y → Trace r size (Event.mended y.value.whole ∷ es) (weak_after y.value.whole y.drives ws) (World.on y.value.mem y.drives) →
      Seen (Event.mended x.value.whole ∷ es) (weak_after x.value.whole x.drives ws) (World.on x.value.mem x.drives)
  at_mended ws x y s z = Seen.ons s.values.1 (rw (s.values.0, ← s.drives) z)

  seen : {es : List (Event C R)} {ws : List ℕ} {w : World e} → Trace e size es ws w → Seen es ws w
  seen Trace.begin = Seen.offs Trace.begin
  seen (Trace.opened {d = d} z) = elim (seen z) [ Seen.offs x ↦ at_opened _ _ (alike_run t.opens d) (Trace.opened x) ]
  seen (Trace.opening_cut z u a) = elim (seen z) [ Seen.offs x ↦ Seen.offs (Trace.opening_cut x (alike_upto t.opens u) a) ]
  seen (Trace.answered {d = d} c z) = elim (seen z) [ Seen.ons s x ↦ at_answered c _ _ (alike_run (t.does c _ _ s) d) (Trace.answered c x) ]
  seen (Trace.call_cut c z u a) = elim (seen z) [ Seen.ons s x ↦ Seen.offs (Trace.call_cut c x (alike_upto (t.does c _ _ s) u) a) ]
  seen (Trace.between_cut z a) = elim (seen z) [ Seen.ons s x ↦ Seen.offs (Trace.between_cut x a) ]
  seen (Trace.mending {ws = ws} {d = d} z) = elim (seen z) [ Seen.ons s x ↦ at_mended ws _ _ (alike_run (t.mends _ _ s) d) (Trace.mending x) ]
  seen (Trace.mending_cut z u a) = elim (seen z) [ Seen.ons s x ↦ Seen.offs (Trace.mending_cut x (alike_upto (t.mends _ _ s) u) a) ]
  seen (Trace.loses_off i h k z) = elim (seen z) [ Seen.offs x ↦ Seen.offs (Trace.loses_off i h k x) ]
  seen (Trace.loses_on i h k z) = elim (seen z) [ Seen.ons s x ↦ Seen.ons s (Trace.loses_on i h k x) ]
  seen (Trace.replaces_off i h k z) = elim (seen z) [ Seen.offs x ↦ Seen.offs (Trace.replaces_off i h k x) ]
  seen (Trace.replaces_on i h k z) = elim (seen z) [ Seen.ons s x ↦ Seen.ons s (Trace.replaces_on i h k x) ]

module _ {C R M : Type 0} {s : Stepping C R M} {n : ℕ} {e : Machine C R} {S : ℕ → Held M → e.Mem → Type 0} (t : TiedAll s n e S) where
  pub code_keeps : (j : ℕ → Judge C R) → CodeKeeps s n e j
  code_keeps j k b h size lo hi es ws w z =
      let m = tied_mirrors (t size lo hi) b h in
      let (v, x) = somewhere m (seen m z) in
      k size lo hi es ws v x

  pub code_within : CodeWithin s n e
  code_within k b h size lo hi es ws =
      let m = tied_mirrors (t size lo hi) b h in (
        λ d z. elim (seen m z) [ Seen.offs x ↦ alike_fair m.opens ((k size lo hi es ws).0 d x) ],
        λ g d z. elim (seen m z) [
          | Seen.ons s x ↦
              let w = (k size lo hi es ws).1 _ d x in (
                λ c. alike_fair (m.does c _ _ s) (w.0 c),
                alike_fair (m.mends _ _ s) w.1,
                rw (alike_ops (m.mends _ _ s) d) w.2,
              )
        ],
      )
