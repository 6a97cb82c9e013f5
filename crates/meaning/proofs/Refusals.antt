-- What is turned away changes nothing: no invariant is needed.
-- Assumes nothing.
use Rattle.std.proofs.Common.{◌≡◌, ℕ, Bool, true, false, cond, not, ◌&&◌, ◌||◌, eqb, ltb, leb, List, [], ◌∷◌, length, sym, refl, subst, arith}
use Rattle.meaning.specs.Lists.{Name, some, every, find, none}
use Rattle.meaning.specs.Rooms.{Version, Upload, Room, State, Expect, Call, MakeRoom, DropRoom, Put, Get, Remove, Look, Versions, Begin, PutPart, Complete, Abort, Hold, SetRules, Tick, Reply, No, Yes, Num, Got, List', Full, Out, Shown}
use Rattle.meaning.specs.Does.{no, at', is_room, is_held, meets, current, name_ok, bytes, gapless, rule_ok, small, in_room_or, puts, gets, removes_one, removes_latest, parts_put, completes, unless_no, aborts, holds, acts, does, is_tick}
use Rattle.meaning.specs.Answers.{Refuses, full, says_so, not_yet, too_full}
use Rattle.meaning.specs.Laws.{RefusalsChangeNothing}

-- a refusal by a number that leaves the state as it was, or no refusal
data Calm (s : State) : Out → Type 0 where
  refused : (k : ℕ) → Calm s (no k s)
  granted : {r : Reply} (t : State) → (Refuses r → ⊥) → Calm s (record { reply = r; state = t })

calm_no : (k : ℕ) (s : State) → Calm s (no k s)
calm_no k s = refused k

calm_yes : (s t : State) → Calm s (record { reply = Yes; state = t })
calm_yes s t = granted t (λ h. elim h [ ])

calm_num : (k : ℕ) (s t : State) → Calm s (record { reply = Num k; state = t })
calm_num k s t = granted t (λ h. elim h [ ])

calm_got : (num size : ℕ) (bs : List ℕ) (s : State) → Calm s (record { reply = Got num size bs; state = s })
calm_got num size bs s = granted s (λ h. elim h [ ])

calm_list : (xs : List Shown) (s : State) → Calm s (record { reply = List' xs; state = s })
calm_list xs s = granted s (λ h. elim h [ ])

calm_cond : {s : State} {x y : Out} (b : Bool) → Calm s x → Calm s y → Calm s (cond b x y)
calm_cond true p q = p
calm_cond false p q = q

calm_room : (rs : List Room) (f : Room → Out) (s : State) → ((r : Room) → Calm s (f r)) → Calm s (in_room_or rs f s)
unfolding in_room_or
calm_room [] f s h = calm_no 2 s
calm_room (r ∷ rs) f s h = h r

calm_puts : (n k : Name) (bs : List ℕ) (x : Expect) (r : Room) (s : State) → Calm s (puts n k bs x r s)
calm_puts n k bs x r s = calm_cond (not (meets x (at' k r))) (calm_no 4 s) (calm_cond (leb 1024 (length (at' k r))) (calm_no 8 s) (calm_num s.next s _))

calm_gets : (from most : ℕ) (vs : List Version) (s : State) → Calm s (gets from most vs s)
unfolding gets
calm_gets from most [] s = calm_no 2 s
calm_gets from most (v ∷ vs) s = calm_got _ _ _ s

calm_removes_one : (n k : Name) (vs : List Version) (r : Room) (s : State) → Calm s (removes_one n k vs r s)
unfolding removes_one
calm_removes_one n k [] r s = calm_no 2 s
calm_removes_one n k (v ∷ vs) r s = calm_cond (is_held s.now v) (calm_no 6 s) (calm_yes s _)

calm_removes_latest : (n k : Name) (r : Room) (s : State) → Calm s (removes_latest n k r s)
calm_removes_latest n k r s =
    calm_cond (none (current (at' k r))) (calm_no 2 s)
    (calm_cond (leb 1024 (length (at' k r))) (calm_no 8 s) (calm_cond (r.keeps || some (is_held s.now) (at' k r)) (calm_num s.next s _) (calm_yes s _)))

calm_parts_put : (n : Name) (u p : ℕ) (bs : List ℕ) (us : List Upload) (s : State) → Calm s (parts_put n u p bs us s)
unfolding parts_put
calm_parts_put n u p bs [] s = calm_no 2 s
calm_parts_put n u p bs (x ∷ us) s = calm_yes s _

calm_completes : (n : Name) (u : ℕ) (x : Expect) (us : List Upload) (r : Room) (s : State) → Calm s (completes n u x us r s)
unfolding completes
calm_completes n u x [] r s = calm_no 2 s
calm_completes n u x (y ∷ us) r s = calm_cond (none y.parts || not (gapless 1 y.parts)) (calm_no 7 s) (calm_puts n y.key _ x r s)

-- closing the upload keeps a refusal as it is, and only a number changes the state once more
calm_unless_no : (n : Name) (u : ℕ) (o : Out) (s : State) → Calm s o → Calm s (unless_no n u o)
unfolding unless_no
calm_unless_no n u o s h = go o.reply o.state h
  where
    go : (a : Reply) (t : State) → Calm s (record { reply = a; state = t }) → Calm s (unless_no n u (record { reply = a; state = t }))
    go (No k) t h = h
    go Yes t h = h
    go (Num k) t h = calm_num k s _
    go (Got k z bs) t h = h
    go (List' xs) t h = h
    go Full t h = h

calm_aborts : (n : Name) (u : ℕ) (us : List Upload) (s : State) → Calm s (aborts n u us s)
unfolding aborts
calm_aborts n u [] s = calm_no 2 s
calm_aborts n u (x ∷ us) s = calm_yes s _

calm_holds : (n k : Name) (num until : ℕ) (vs : List Version) (r : Room) (s : State) → Calm s (holds n k num until vs r s)
unfolding holds
calm_holds n k num until [] r s = calm_no 2 s
calm_holds n k num until (v ∷ vs) r s = calm_yes s _

calm_acts : (c : Call) (s : State) → Calm s (acts c s)
unfolding acts
calm_acts (MakeRoom n k) s = calm_cond (not (name_ok n)) (calm_no 1 s) (calm_cond (some (is_room n) s.rooms) (calm_no 3 s) (calm_cond (leb 256 (length s.rooms)) (calm_no 8 s) (calm_yes s _)))
calm_acts (DropRoom n) s = calm_room (find (is_room n) s.rooms) _ s (λ r. calm_cond (none r.objects && none r.uploads) (calm_yes s _) (calm_no 5 s))
calm_acts (Put n k bs x) s = calm_cond (not (name_ok k) || ltb 5242880 (length bs) || not (bytes bs)) (calm_no 1 s) (calm_room (find (is_room n) s.rooms) _ s (λ r. calm_puts n k bs x r s))
calm_acts (Get n k num from most) s = calm_cond (ltb 5242880 most) (calm_no 1 s) (calm_room (find (is_room n) s.rooms) _ s (λ r. calm_gets from most _ s))
calm_acts (Remove n k num) s = calm_room (find (is_room n) s.rooms) _ s (λ r. calm_cond (eqb num 0) (calm_removes_latest n k r s) (calm_removes_one n k _ r s))
calm_acts (Look n p after most) s = calm_cond (ltb 1000 most) (calm_no 1 s) (calm_room (find (is_room n) s.rooms) _ s (λ r. calm_list _ s))
calm_acts (Versions n k) s = calm_room (find (is_room n) s.rooms) _ s (λ r. calm_list _ s)
calm_acts (Begin n k) s = calm_cond (not (name_ok k)) (calm_no 1 s) (calm_room (find (is_room n) s.rooms) _ s (λ r. calm_cond (leb 1024 (length r.uploads)) (calm_no 8 s) (calm_num s.next s _)))
calm_acts (PutPart n u p bs) s = calm_cond (eqb p 0 || ltb 10000 p || ltb 5242880 (length bs) || not (bytes bs)) (calm_no 1 s) (calm_room (find (is_room n) s.rooms) _ s (λ r. calm_parts_put n u p bs _ s))
calm_acts (Complete n u x) s = calm_room (find (is_room n) s.rooms) _ s (λ r. calm_unless_no n u _ s (calm_completes n u x _ r s))
calm_acts (Abort n u) s = calm_room (find (is_room n) s.rooms) _ s (λ r. calm_aborts n u _ s)
calm_acts (Hold n k num until) s = calm_cond (not (small until)) (calm_no 1 s) (calm_room (find (is_room n) s.rooms) _ s (λ r. calm_holds n k num until _ r s))
calm_acts (SetRules n rs) s = calm_cond (ltb 64 (length rs) || not (every rule_ok rs)) (calm_no 1 s) (calm_room (find (is_room n) s.rooms) _ s (λ r. calm_yes s _))
calm_acts (Tick t) s = calm_cond (small t && ltb 0 t) (calm_yes s _) (calm_no 1 s)

calm_does : (c : Call) (s : State) → Calm s (does c s)
calm_does c s = calm_cond (eqb s.now 0 && not (is_tick c)) (calm_no 10 s) (calm_cond (not (small s.next) && not (is_tick c)) (calm_no 8 s) (calm_acts c s))

calm_state : {s : State} {o : Out} → Calm s o → Refuses o.reply → o.state ≡ s
calm_state (refused k) h = refl
calm_state (granted t n) h = absurd (n h)

calm_not_full : {s : State} {o : Out} → Calm s o → o.reply ≡ Full → ⊥
calm_not_full (refused k) e = let z : ◌≡◌ {A = ℕ} 0 1 = cc in omega arith
calm_not_full (granted t n) e = n (subst Refuses (sym e) full)

-- full isn't for the meaning to say, but for the house that has no more room
pub never_full : (c : Call) (s : State) → (does c s).reply ≡ Full → ⊥
never_full c s = calm_not_full (calm_does c s)

pub refusals_change_nothing : RefusalsChangeNothing
refusals_change_nothing can size c s t r (says_so d u built) h = calm_state (calm_does d u) h
refusals_change_nothing can size c s t r (not_yet d u unbuilt) h = refl
refusals_change_nothing can size c s t r (too_full d u built more over) h = refl
