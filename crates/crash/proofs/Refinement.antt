-- A refinement is one in which mending ends within as many stretches as a drive has sectors.
-- Assumes nothing.
use Rattle.crash.specs.Refinement.{Refinement, KeepsAt}
use Rattle.crash.specs.RefinementBy.{RefinementBy}
use Rattle.crash.proofs.RefinementBy.{refined_keeps_by}

abbrev by_size : Refinement → RefinementBy
by_size g =
    record {
      C = g.C;
      R = g.R;
      j = g.j;
      e = g.e;
      most = λ size. size;
      Off = g.Off;
      On = g.On;
      refines = λ size lo hi.
          let r = g.refines size lo hi in
          record {
            begins = r.begins;
            some_state = r.some_state;
            opens = r.opens;
            calls = r.calls;
            mends = λ l w o. r.mends l o;
            rests = r.rests;
            loses_off = r.loses_off;
            loses_on = r.loses_on;
            replaces_off = r.replaces_off;
            replaces_on = r.replaces_on;
          };
      bounded = λ size lo hi.
          let b = g.bounded size lo hi in
          record { opening = λ l w o. b.opening o; calling = λ c l w o. b.calling c o; mending = λ l w o. b.mending o };
    }

pub refined_keeps : (g : Refinement) → KeepsAt g
refined_keeps g = refined_keeps_by (by_size g)
