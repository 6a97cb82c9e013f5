-- Rules do to each thing what they would do if it were alone, and the same time told again changes nothing.
-- Assumes nothing.
use Rattle.std.proofs.Common.{◌≡◌, ℕ, ◌≤◌, Bool, true, false, cond, not, ◌&&◌, eqb, ltb, List, [], ◌∷◌, map, sym, refl, ap, ◌∙◌, ap₂, arith}
use mathlib.Core.List.Memᴰ
use mathlib.Core.List.{Memᴰ}
use Rattle.std.proofs.lemmas.Bool.Decides.{nat_tests}
use Rattle.meaning.specs.Lists.{Name, find}
use Rattle.meaning.specs.Rooms.{Version, Object, Rule, Room, State, Tick, Out}
use Rattle.meaning.specs.Does.{no, does, acts, is_tick, is_room, is_object, is_held, is_removed, due, rule_for, old_kept, tidy, covered, aged, kept, aged_objects, aged_room, later, ticked, small, with_objects, versions_of}
use Rattle.meaning.specs.Laws.{versions_in, alone, RulesAlone, SameTimeAgain}
use Rattle.meaning.proofs.Good.{Pairs, Over, Before}
use Rattle.meaning.proofs.Bounds.{good}
use Rattle.meaning.proofs.Finds.{found, at_find, find_mapped}
use Rattle.meaning.proofs.Objects.{found_aged}
use Rattle.meaning.proofs.Heaps.{mark}

-- THE SAME TIME AGAIN

-- the older versions of which none goes at this time, a being when the one on top came
data Lasting (now l : ℕ) : ℕ → List Version → Type 0 where
  bottom : {a : ℕ} → Lasting now l a []
  stays : {a : ℕ} {v : Version} {vs : List Version} → (due now l a && not (is_held now v)) ≡ false → Lasting now l v.at vs → Lasting now l a (v ∷ vs)

-- what isn't due under one that came at b isn't due under a later one either
lasting_under : (now l a b : ℕ) (vs : List Version) → b ≤ a → Lasting now l b vs → Lasting now l a vs
lasting_under now l a b [] h bottom = bottom
lasting_under now l a b (v ∷ vs) h (stays e w) = stays (not_due (is_held now v) e) w
  where
    not_due : (held : Bool) → (due now l b && not held) ≡ false → (due now l a && not held) ≡ false
    not_due held e = grind (arith, nat_tests)

old_kept_lasting : (now l a : ℕ) (vs : List Version) → Lasting now l a vs → old_kept now l a vs ≡ vs
unfolding old_kept
old_kept_lasting now l a [] bottom = refl
old_kept_lasting now l a (v ∷ vs) (stays e w) = rw e (ap (λ (ws : List Version). v ∷ ws) (old_kept_lasting now l v.at vs w))

-- times don't rise from the latest down, so what goes at this time goes at once
lasting_old_kept : (now l : ℕ) (keeps : Bool) (v : Version) (vs : List Version) → Pairs (Over keeps) (v ∷ vs) → Lasting now l v.at (old_kept now l v.at vs)
unfolding old_kept
lasting_old_kept now l keeps v [] p = bottom
lasting_old_kept now l keeps v (w ∷ vs) p =
    (elim (due now l v.at && not (is_held now w))
    as (λ b. (due now l v.at && not (is_held now w)) ≡ b → Lasting now l v.at (cond b (old_kept now l w.at vs) (w ∷ old_kept now l w.at vs))) [
      | true ↦ λ e. lasting_under now l v.at w.at (old_kept now l w.at vs) (p.0 w (Memᴰ.head refl)).later (lasting_old_kept now l keeps w vs p.1)
      | false ↦ λ e. stays e (lasting_old_kept now l keeps w vs p.1)
    ]) refl

-- may the rule take the latest
abbrev goes : ℕ → Rule → Version → Bool
goes now x v = due now x.lasts v.at && not (is_removed v.body) && not (is_held now v)

mark_stays : (now : ℕ) (x : Rule) → goes now x (mark now) ≡ false
unfolding is_removed
mark_stays now x = either (due now x.lasts now) (not (is_held now (mark now)))
  where
    either : (a b : Bool) → (a && false && b) ≡ false
    either true b = refl
    either false b = refl

-- nothing is due right under what comes now
lasting_now : (now l : ℕ) (v : Version) (vs : List Version) → Lasting now l v.at vs → Lasting now l now (v ∷ vs)
lasting_now now l v vs w = stays (not_yet (is_held now v)) w
  where
    not_yet : (held : Bool) → (due now l now && not held) ≡ false
    not_yet held = grind (arith, nat_tests)

-- what a rule has left, it leaves
aged_lasting : (now : ℕ) (keeps : Bool) (x : Rule) (xs : List Rule) (v : Version) (vs : List Version) → goes now x v ≡ false → Lasting now x.old_lasts v.at vs →
    aged now keeps (x ∷ xs) (tidy (v ∷ vs)) ≡ tidy (v ∷ vs)
unfolding aged tidy old_kept
aged_lasting now keeps x xs v [] g w =
    (elim (is_removed v.body) as (λ b. is_removed v.body ≡ b → aged now keeps (x ∷ xs) (cond b [] (v ∷ [])) ≡ cond b [] (v ∷ [])) [
      | true ↦ λ e. refl
      | false ↦ λ e. rw (g, e) refl
    ]) refl
aged_lasting now keeps x xs v (u ∷ vs) g w = rw (g, old_kept_lasting now x.old_lasts v.at (u ∷ vs) w) refl

aged_covered : (now : ℕ) (keeps : Bool) (x : Rule) (xs : List Rule) (a : ℕ) (vs : List Version) → Lasting now x.old_lasts a vs → aged now keeps (x ∷ xs) (tidy (covered now vs)) ≡ tidy (covered now vs)
unfolding aged tidy covered
aged_covered now keeps x xs a [] bottom = refl
aged_covered now keeps x xs a (u ∷ vs) (stays e w) = aged_lasting now keeps x xs (mark now) (u ∷ vs) (mark_stays now x) (lasting_now now x.old_lasts u vs w)

aged_again : (now : ℕ) (keeps : Bool) (xs : List Rule) (vs : List Version) → Pairs (Over keeps) vs → aged now keeps xs (aged now keeps xs vs) ≡ aged now keeps xs vs
unfolding aged
aged_again now keeps [] vs p = refl
aged_again now keeps (x ∷ xs) [] p = refl
aged_again now keeps (x ∷ xs) (v ∷ vs) p =
    (elim (goes now x v)
    as (λ b. goes now x v ≡ b → aged now keeps (x ∷ xs) (left b) ≡ left b) [
      | true ↦ λ e. marked keeps
      | false ↦ λ e. aged_lasting now keeps x xs v older e lasting
    ]) refl
  where
    older : List Version
    older = old_kept now x.old_lasts v.at vs

    left : Bool → List Version
    left b = tidy (cond b (cond keeps (mark now ∷ v ∷ older) (covered now older)) (v ∷ older))

    lasting : Lasting now x.old_lasts v.at older
    lasting = lasting_old_kept now x.old_lasts keeps v vs p

    marked : (k : Bool) → aged now keeps (x ∷ xs) (tidy (cond k (mark now ∷ v ∷ older) (covered now older))) ≡ tidy (cond k (mark now ∷ v ∷ older) (covered now older))
    marked true = aged_lasting now keeps x xs (mark now) (v ∷ older) (mark_stays now x) (lasting_now now x.old_lasts v older lasting)
    marked false = aged_covered now keeps x xs v.at older lasting

-- what rules do in a room depends on its rules, and on whether it keeps, only
aged_objects_like : (now : ℕ) (r : Room) (ps os : List Object) → aged_objects now (with_objects ps r) os ≡ aged_objects now r os
unfolding aged_objects
aged_objects_like now r ps [] = refl
aged_objects_like now r ps (o ∷ os) = ap (kept o.key (aged now r.keeps (rule_for o.key r.rules) o.versions)) (aged_objects_like now r ps os)

aged_objects_again : (now : ℕ) (r : Room) (os : List Object) → ((o : Object) → Memᴰ o os → Pairs (Over r.keeps) o.versions) → aged_objects now r (aged_objects now r os) ≡ aged_objects now r os
unfolding aged_objects kept
aged_objects_again now r [] p = refl
aged_objects_again now r (o ∷ os) p =
    stay (aged now r.keeps (rule_for o.key r.rules) o.versions) (aged_objects now r os) (aged_again now r.keeps (rule_for o.key r.rules) o.versions (p o (Memᴰ.head refl)))
    (aged_objects_again now r os (λ q m. p q (Memᴰ.tail m)))
  where
    stay : (vs : List Version) (rest : List Object) → aged now r.keeps (rule_for o.key r.rules) vs ≡ vs → aged_objects now r rest ≡ rest → aged_objects now r (kept o.key vs rest) ≡ kept o.key vs rest
    stay [] rest e f = f
    stay (v ∷ vs) rest e f = rw (e, f) refl

aged_room_again : (now : ℕ) (r : Room) → ((o : Object) → Memᴰ o r.objects → Pairs (Over r.keeps) o.versions) → aged_room now (aged_room now r) ≡ aged_room now r
aged_room_again now r p = ap (λ (os : List Object). with_objects os r) (aged_objects_like now r (aged_objects now r r.objects) (aged_objects now r r.objects) ∙ aged_objects_again now r r.objects p)

rooms_again : (now : ℕ) (rs : List Room) → ((r : Room) → Memᴰ r rs → aged_room now (aged_room now r) ≡ aged_room now r) → map (aged_room now) (map (aged_room now) rs) ≡ map (aged_room now) rs
rooms_again now [] h = refl
rooms_again now (r ∷ rs) h = ap₂ ◌∷◌ (h r (Memᴰ.head refl)) (rooms_again now rs (λ q m. h q (Memᴰ.tail m)))

-- a telling of the time needs no earlier one
tick_acts : (t : ℕ) (s : State) → does (Tick t) s ≡ acts (Tick t) s
unfolding is_tick
tick_acts t s = pass (eqb s.now 0) (not (small s.next))
  where
    pass : (a b : Bool) → cond (a && false) (no 10 s) (cond (b && false) (no 8 s) (acts (Tick t) s)) ≡ acts (Tick t) s
    pass true true = refl
    pass true false = refl
    pass false true = refl
    pass false false = refl

abbrev tells_the_time : ℕ → Bool
tells_the_time t = small t && ltb 0 t

tick_told : (t : ℕ) (s : State) → tells_the_time t ≡ true → (does (Tick t) s).state ≡ ticked (later t s.now) s
unfolding acts
tick_told t s e = ap (λ (o : Out). o.state) (tick_acts t s) ∙ rw e refl

tick_refused : (t : ℕ) (s : State) → tells_the_time t ≡ false → (does (Tick t) s).state ≡ s
unfolding acts
tick_refused t s e = ap (λ (o : Out). o.state) (tick_acts t s) ∙ rw e refl

-- as each room's things are stacked by their times, telling the time again changes nothing
time_again : (s : State) (t : ℕ) → ((r : Room) → Memᴰ r s.rooms → (o : Object) → Memᴰ o r.objects → Pairs (Over r.keeps) o.versions) →
    (does (Tick t) (does (Tick t) s).state).state ≡ (does (Tick t) s).state
time_again s t p =
    (elim (tells_the_time t) as (λ b. tells_the_time t ≡ b → (does (Tick t) (does (Tick t) s).state).state ≡ (does (Tick t) s).state) [
      | true ↦ λ e. rw (tick_told t s e) (tick_told t (ticked (later t s.now) s) e ∙ told)
      | false ↦ λ e. rw (tick_refused t s e) (tick_refused t s e)
    ]) refl
  where
    now : ℕ
    now = later t s.now

    told : ticked (later t now) (ticked now s) ≡ ticked now s
    told = rw same_now (ap (λ (rs : List Room). record { now = now; next = s.next; rooms = rs }) (rooms_again now s.rooms (λ r m. aged_room_again now r (p r m))))
      where
        same_now : later t now ≡ now
        same_now = grind (arith, nat_tests)

-- EACH THING ALONE

abbrev room_alone : Name → Room → Room
room_alone k r = with_objects (find (is_object k) r.objects) r

-- a thing found among one is that one
find_again : (k : Name) (os : List Object) → find (is_object k) (find (is_object k) os) ≡ find (is_object k) os
unfolding find
find_again k [] = refl
find_again k (o ∷ os) =
    (elim (is_object k o) as (λ b. is_object k o ≡ b → find (is_object k) (cond b (o ∷ []) (find (is_object k) os)) ≡ cond b (o ∷ []) (find (is_object k) os)) [
      | true ↦ λ e. rw e refl
      | false ↦ λ e. find_again k os
    ]) refl

-- what rules leave under a key is what they leave of that alone
aged_alone : (now : ℕ) (r : Room) (k : Name) → Pairs Before r.objects →
    versions_of (find (is_object k) (aged_room now r).objects) ≡ versions_of (find (is_object k) (aged_room now (room_alone k r)).objects)
aged_alone now r k p =
    found_aged now r k r.objects p
    ∙ ap (λ (os : List Object). aged now r.keeps (rule_for k r.rules) (versions_of os)) (sym (find_again k r.objects))
    ∙ sym (found_aged now (room_alone k r) k (find (is_object k) r.objects) one)
  where
    one : Pairs Before (find (is_object k) r.objects)
    one = at_find (is_object k) (Pairs Before) r.objects (λ _. tt) (λ o _. (λ q m. absurd (Memᴰ.not-nil m), tt))

-- alone, the room is still the one of its name
room_alone_lem : (s : State) (n k : Name) (r : Room) (q : List Room) → find (is_room n) s.rooms ≡ r ∷ q → find (is_room n) (alone n k s).rooms ≡ room_alone k r ∷ []
unfolding find
room_alone_lem s n k r q e = rw (e, (found (is_room n) s.rooms r q e).passes) refl

-- what stands under a key: of the room of that name, if there is one
in_found : (s : State) (n k : Name) (r : Room) (q : List Room) → find (is_room n) s.rooms ≡ r ∷ q → versions_in n k s ≡ versions_of (find (is_object k) r.objects)
in_found s n k r q e = rw e refl

in_none : (s : State) (n k : Name) → find (is_room n) s.rooms ≡ [] → versions_in n k s ≡ []
in_none s n k e = rw e refl

room_told : (now : ℕ) (s : State) (n : Name) (rs : List Room) → find (is_room n) s.rooms ≡ rs → find (is_room n) (ticked now s).rooms ≡ map (aged_room now) rs
room_told now s n rs e = find_mapped (is_room n) (aged_room now) (λ r. refl) s.rooms ∙ ap (map (aged_room now)) e

-- told the time, and not told it, a thing is as it would be alone
alone_told : (now : ℕ) (s : State) (n k : Name) (rs : List Room) → find (is_room n) s.rooms ≡ rs → ((r : Room) → Memᴰ r s.rooms → Pairs Before r.objects) →
    versions_in n k (ticked now s) ≡ versions_in n k (ticked now (alone n k s))
unfolding find
alone_told now s n k [] e p = in_none (ticked now s) n k (room_told now s n [] e) ∙ sym (in_none (ticked now (alone n k s)) n k (room_told now (alone n k s) n [] (rw e refl)))
alone_told now s n k (r ∷ q) e p =
    in_found (ticked now s) n k (aged_room now r) (map (aged_room now) q) (room_told now s n (r ∷ q) e)
    ∙ aged_alone now r k (p r (found (is_room n) s.rooms r q e).there)
    ∙ sym (in_found (ticked now (alone n k s)) n k (aged_room now (room_alone k r)) [] (room_told now (alone n k s) n (room_alone k r ∷ []) (room_alone_lem s n k r q e)))

alone_untold : (s : State) (n k : Name) (rs : List Room) → find (is_room n) s.rooms ≡ rs → versions_in n k s ≡ versions_in n k (alone n k s)
unfolding find
alone_untold s n k [] e = in_none s n k e ∙ sym (in_none (alone n k s) n k (rw e refl))
alone_untold s n k (r ∷ q) e = in_found s n k r q e ∙ ap versions_of (sym (find_again k r.objects)) ∙ sym (in_found (alone n k s) n k (room_alone k r) [] (room_alone_lem s n k r q e))

-- as keys rise in each room, rules do to each thing what they would do to it alone
each_alone : (s : State) (t : ℕ) (n k : Name) → ((r : Room) → Memᴰ r s.rooms → Pairs Before r.objects) →
    versions_in n k (does (Tick t) s).state ≡ versions_in n k (does (Tick t) (alone n k s)).state
each_alone s t n k p =
    (elim (tells_the_time t) as (λ b. tells_the_time t ≡ b → versions_in n k (does (Tick t) s).state ≡ versions_in n k (does (Tick t) (alone n k s)).state) [
      | true ↦ λ e. ap (versions_in n k) (tick_told t s e) ∙ alone_told (later t s.now) s n k (find (is_room n) s.rooms) refl p ∙ ap (versions_in n k) (sym (tick_told t (alone n k s) e))
      | false ↦ λ e. ap (versions_in n k) (tick_refused t s e) ∙ alone_untold s n k (find (is_room n) s.rooms) refl ∙ ap (versions_in n k) (sym (tick_refused t (alone n k s) e))
    ]) refl

-- THE LAWS

pub same_time_again : SameTimeAgain
same_time_again s t run = time_again s t (λ r m. ((good run).rooms_good r m).stacked)

pub rules_alone : RulesAlone
rules_alone s t run n k = each_alone s t n k (λ r m. ((good run).rooms_good r m).keys_rise)
