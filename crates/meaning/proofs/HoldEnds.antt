-- A hold lasts until its time, and ends then.
-- Assumes nothing.
use Rattle.std.proofs.Common.{◌≡◌, ℕ, ◌<◌, Bool, true, false, cond, not, ◌&&◌, eqb, [], ◌∷◌, sym, refl, inl, inr, arith}
use mathlib.Core.List.{Memᴰ}
use Rattle.std.proofs.lemmas.Bool.{lt-ltb, eqb-true}
use Rattle.std.proofs.lemmas.Bool.Decides.{nat_tests}
use Rattle.meaning.specs.Lists.{find}
use Rattle.meaning.specs.Rooms.{Version, Room, State, Call, Remove, No, Yes, Out}
use Rattle.meaning.specs.Does.{no, acts, is_tick, small, in_room_or, removes_one, is_room, is_num, is_held, at'}
use Rattle.meaning.specs.Laws.{keeps_of, HeldUntil, HoldEnds}
use Rattle.meaning.proofs.Good.{Good}
use Rattle.meaning.proofs.Finds.{FoundOrNone, found, found_or_none}
use Rattle.meaning.proofs.Heaps.{Heap, one_version}
use Rattle.meaning.proofs.Moves.{versions_found}
use Rattle.meaning.proofs.Bounds.{heap_in, good}
use Rattle.meaning.proofs.Names.{so}
use Rattle.meaning.proofs.Stays.{held_stays}

pub held_until : HeldUntil
held_until s t before run n k v m l = held_stays s t before run n k v m (so (lt-ltb t.now v.held l))

-- a refusal as held isn't for want of a time or of numbers
acted : (b c : Bool) (s : State) (o : Out) → (cond b (no 10 s) (cond c (no 8 s) o)).reply ≡ No 6 → o.reply ≡ No 6
acted true c s o e = let z : ◌≡◌ {A = ℕ} 10 6 = cc in absurd (omega arith)
acted false true s o e = let z : ◌≡◌ {A = ℕ} 8 6 = cc in absurd (omega arith)
acted false false s o e = e

pub hold_ends : HoldEnds
unfolding acts in_room_or removes_one
hold_ends s run n k v m one e = in_the_room (found_or_none (is_room n) s.rooms) (acted (eqb s.now 0 && not (is_tick call)) (not (small s.next) && not (is_tick call)) s (acts call s) e)
  where
    call : Call
    call = Remove n k v.num

    g : Good s
    g = good run

    numbered : eqb v.num 0 ≡ false
    numbered = grind (arith, nat_tests)

    before : (r : Room) (w : Version) → w ≡ v → (b : Bool) → is_held s.now w ≡ b → (removes_one n k (w ∷ []) r s).reply ≡ No 6 → s.now < v.held
    before r w d true h i = rw (← d) (grind (arith, nat_tests))
    before r w d false h i = absurd (let z : Yes ≡ No 6 = rw h at i in let y : ◌≡◌ {A = ℕ} 0 1 = cc in omega arith)

    of_key : (r : Room) → find (is_room n) s.rooms ≡ r ∷ [] → FoundOrNone (is_num v.num) (at' k r) → (removes_one n k (find (is_num v.num) (at' k r)) r s).reply ≡ No 6 → s.now < v.held
    of_key r e (inl d) i = absurd (let x : No 2 ≡ No 6 = rw d at i in let z : ◌≡◌ {A = ℕ} 2 6 = cc in omega arith)
    of_key r e (inr h) i =
        let hit = found (is_num v.num) (at' k r) h.0 [] h.1 in
        let here : Memᴰ v (at' k r) = rw (versions_found n k s r e) at m in
        let heap : Heap s.now s.next (keeps_of n s) (at' k r) = rw (versions_found n k s r e) at (heap_in s g n k) in
        let same : v ≡ h.0 = one_version (at' k r) heap v h.0 here hit.there one (eqb-true v.num h.0.num hit.passes) in
        before r h.0 (sym same) (is_held s.now h.0) refl (rw h.1 at i)

    in_the_room : FoundOrNone (is_room n) s.rooms → (acts (Remove n k v.num) s).reply ≡ No 6 → s.now < v.held
    in_the_room (inl d) i = absurd (mathlib.Core.List.Memᴰ.not-nil (rw d at m))
    in_the_room (inr h) i = of_key h.0 h.1 (found_or_none (is_num v.num) (at' k h.0)) (rw (h.1, numbered) at i)
