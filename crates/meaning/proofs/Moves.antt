-- How the versions of a key may move by a call: at most at one key of one room they are set, or rules age them, or they stay.
-- Assumes nothing.
use Rattle.std.proofs.Common.{◌≡◌, ℕ, ◌+◌, ◌≤◌, Bool, true, false, cond, not, ◌⊎◌, List, [], ◌∷◌, ◌++◌, map, sym, refl, ap, ◌∙◌, subst, inl, inr, arith}
use mathlib.Core.List.Memᴰ
use mathlib.Core.List.{Memᴰ}
use Rattle.std.proofs.lemmas.Bool.{not-true, not_from_false}
use Rattle.meaning.specs.Lists.{Name, keep, find, change, same}
use Rattle.meaning.specs.Rooms.{Body, Version, Upload, Room, State, Call, Tick, Reply, Out}
use Rattle.meaning.specs.Does.{is_room, is_object, is_num, is_held, versions_of, at', set_object, with_objects, with_uploads, aged, rule_for, aged_room, later, ticked}
use Rattle.meaning.specs.Laws.{versions_in}
use Rattle.meaning.proofs.Good.{Pairs, Before, Good}
use Rattle.meaning.proofs.Names.{same_eq, same_unlike, same_not}
use Rattle.meaning.proofs.Finds.{Pushed, Changed, FoundOrNone, found, found_or_none, kept_was, changed_was, find_changed, find_unchanged, find_kept, find_nothing, find_pushed, find_mapped}
use Rattle.meaning.proofs.Objects.{found_set, found_elsewhere, found_aged}
use Rattle.meaning.proofs.Steps.{fresh, hold_to, Sets, new, gone, fewer, longer, Within, Step, stands, made, dropped, told, within, sets, begun, parted, aborted, ruled, empty_room, without}
use Rattle.meaning.proofs.Heaps.{aged_was_or_mark, higher_left}

-- now: the time after the call; room and key: the one place where versions may be set
pub data Moves (s : State) (now : ℕ) (room key n k : Name) : Call → List Version → Type 0 where
  stay : {c : Call} → Moves s now room key n k c (versions_in n k s)
  set : {c : Call} {reply : Reply} {next : ℕ} {us : List Upload} {vs : List Version} (r : Room) → now ≡ s.now → n ≡ room → k ≡ key →
      find (is_room n) s.rooms ≡ r ∷ [] → Sets s n r k c reply next us vs → Moves s now room key n k c vs
  ages : (t : ℕ) (r : Room) → now ≡ later t s.now → find (is_room n) s.rooms ≡ r ∷ [] →
      Moves s now room key n k (Tick t) (aged (later t s.now) r.keeps (rule_for k r.rules) (at' k r))

pub record Spot (s : State) (c : Call) (o : Out) : Type 0 where
  pub room : Name
  pub key : Name
  pub moves : (n k : Name) → Moves s o.state.now room key n k c (versions_in n k o.state)

pub versions_found : (n k : Name) (s : State) (r : Room) → find (is_room n) s.rooms ≡ r ∷ [] → versions_in n k s ≡ at' k r
versions_found n k s r e = rw e refl

versions_none : (n k : Name) (s : State) → find (is_room n) s.rooms ≡ [] → versions_in n k s ≡ []
versions_none n k s e = rw e refl

versions_same : (n k : Name) (s t : State) → find (is_room n) t.rooms ≡ find (is_room n) s.rooms → versions_in n k t ≡ versions_in n k s
versions_same n k s t e = rw e refl

unmoved : {s : State} {now : ℕ} {room key n k : Name} {c : Call} {vs : List Version} → vs ≡ versions_in n k s → Moves s now room key n k c vs
unmoved {s} {now} {room} {key} {n} {k} {c} e = subst (Moves s now room key n k c) (sym e) stay

nowhere : {s : State} {c : Call} {o : Out} → ((n k : Name) → versions_in n k o.state ≡ versions_in n k s) → Spot s c o
nowhere h = record { room = []; key = []; moves = λ n k. unmoved (h n k) }

made_moves : (s : State) (n : Name) (keeps : Bool) (m l : Name) → versions_in m l (record { now = s.now; next = s.next; rooms = s.rooms ++ (empty_room n keeps ∷ []) }) ≡ versions_in m l s
unfolding find versions_of
made_moves s n keeps m l = go (find_pushed (is_room m) (empty_room n keeps) s.rooms)
  where
    t : State
    t = record { now = s.now; next = s.next; rooms = s.rooms ++ (empty_room n keeps ∷ []) }

    go : Pushed (is_room m) (empty_room n keeps) s.rooms → versions_in m l t ≡ versions_in m l s
    go (inl e) = versions_same m l s t e
    go (inr h) = versions_found m l t (empty_room n keeps) h.2 ∙ sym (versions_none m l s h.0)

dropped_moves : (s : State) (n : Name) (r : Room) → find (is_room n) s.rooms ≡ r ∷ [] → r.objects ≡ [] → (m l : Name) →
    versions_in m l (record { now = s.now; next = s.next; rooms = without n s.rooms }) ≡ versions_in m l s
unfolding find versions_of
dropped_moves s n r e none m l = go (same m n) refl
  where
    t : State
    t = record { now = s.now; next = s.next; rooms = without n s.rooms }

    other : Room → Bool
    other x = not (is_room n x)

    empty : at' l r ≡ []
    empty = rw none refl

    gone : m ≡ n → find (is_room m) t.rooms ≡ []
    gone d = find_nothing (is_room m) t.rooms (λ x i. rw d (not-true (is_room n x) (kept_was other s.rooms x i).passes))

    go : (b : Bool) → same m n ≡ b → versions_in m l t ≡ versions_in m l s
    go true d = versions_none m l t (gone (same_eq m n d)) ∙ sym empty ∙ sym (versions_found m l s r (rw (same_eq m n d) e))
    go false d = versions_same m l s t (find_kept other (is_room m) (λ x i. not_from_false (is_room n x) (same_unlike n x.name (λ y. same_not m n d (same_eq m x.name i ∙ sym y)))) s.rooms)

told_moves : (s : State) (t : ℕ) → Good s → (n k : Name) → Moves s (later t s.now) [] [] n k (Tick t) (versions_in n k (ticked (later t s.now) s))
told_moves s t g n k = go (found_or_none (is_room n) s.rooms)
  where
    now : ℕ
    now = later t s.now

    mapped : find (is_room n) (ticked now s).rooms ≡ map (aged_room now) (find (is_room n) s.rooms)
    mapped = find_mapped (is_room n) (aged_room now) (λ _. refl) s.rooms

    left : (r : Room) → find (is_room n) s.rooms ≡ r ∷ [] → versions_in n k (ticked now s) ≡ aged now r.keeps (rule_for k r.rules) (at' k r)
    left r e = versions_found n k (ticked now s) (aged_room now r) (mapped ∙ ap (map (aged_room now)) e) ∙ found_aged now r k r.objects (g.rooms_good r (found (is_room n) s.rooms r [] e).there).keys_rise

    go : FoundOrNone (is_room n) s.rooms → Moves s now [] [] n k (Tick t) (versions_in n k (ticked now s))
    go (inl e) = unmoved (versions_none n k (ticked now s) (mapped ∙ ap (map (aged_room now)) e) ∙ sym (versions_none n k s e))
    go (inr h) = rw (left h.0 h.1) (ages t h.0 refl h.1)

-- a room in the place of the one of its name
abbrev pub replaced : State → ℕ → Name → Room → State
replaced s next n q = record { now = s.now; next = next; rooms = change (is_room n) (λ _. q) s.rooms }

module _ (s : State) (n : Name) (r q : Room) (e : find (is_room n) s.rooms ≡ r ∷ []) (named : q.name ≡ r.name) (next : ℕ) where
  is_there_lem : is_room n q ≡ true
  is_there_lem = rw named (found (is_room n) s.rooms r [] e).passes

  replaced_here : (k : Name) → versions_in n k (replaced s next n q) ≡ at' k q
  replaced_here k = versions_found n k (replaced s next n q) q (find_changed (is_room n) q s.rooms r e is_there_lem)

  replaced_elsewhere : (m k : Name) → (m ≡ n → ⊥) → versions_in m k (replaced s next n q) ≡ versions_in m k s
  replaced_elsewhere m k d = versions_same m k s (replaced s next n q) (find_unchanged (is_room n) (is_room m) q other (other q is_there_lem) s.rooms)
    where
      other : (z : Room) → is_room n z ≡ true → is_room m z ≡ false
      other z i = same_unlike m z.name (λ x. d (x ∙ sym (same_eq n z.name i)))

  -- where the objects stay, nothing moves
  pub replaced_same : q.objects ≡ r.objects → (m k : Name) → versions_in m k (replaced s next n q) ≡ versions_in m k s
  replaced_same o m k = go (same m n) refl
    where
      go : (b : Bool) → same m n ≡ b → versions_in m k (replaced s next n q) ≡ versions_in m k s
      go true d = rw (same_eq m n d) (replaced_here k ∙ ap (λ os. versions_of (find (is_object k) os)) o ∙ sym (versions_found n k s r e))
      go false d = replaced_elsewhere m k (same_not m n d)

set_moves : {c : Call} {reply : Reply} {next : ℕ} {us : List Upload} {vs : List Version} (s : State) (n : Name) (r : Room) (k : Name) → Pairs Before r.objects →
    find (is_room n) s.rooms ≡ r ∷ [] → Sets s n r k c reply next us vs →
    (m l : Name) → Moves s s.now n k m l c (versions_in m l (replaced s next n (with_uploads us (with_objects (set_object k vs r.objects) r))))
set_moves {c} {next} {us} {vs} s n r k rise e h m l = go (same m n) (same l k) refl refl
  where
    q : Room
    q = with_uploads us (with_objects (set_object k vs r.objects) r)

    go : (a b : Bool) → same m n ≡ a → same l k ≡ b → Moves s s.now n k m l c (versions_in m l (replaced s next n q))
    go true true i j = rw (same_eq m n i, same_eq l k j, replaced_here s n r q e refl next k, found_set k vs r.objects rise) (set r refl refl refl e h)
    go true false i j = unmoved (rw (same_eq m n i) (replaced_here s n r q e refl next l ∙ ap versions_of (found_elsewhere k l vs r.objects (same_not l k j)) ∙ sym (versions_found n l s r e)))
    go false b i j = unmoved (replaced_elsewhere s n r q e refl next m l (same_not m n i))

within_moves : (s : State) (n : Name) (r : Room) {c : Call} {reply : Reply} {next : ℕ} (q : Room) → Good s → find (is_room n) s.rooms ≡ r ∷ [] →
    Within s n r c reply next q → Spot s c (record { reply = reply; state = replaced s next n q })
within_moves s n r q g e (sets k h) = record { room = n; key = k; moves = set_moves s n r k (g.rooms_good r (found (is_room n) s.rooms r [] e).there).keys_rise e h }
within_moves s n r q g e (begun k ok few) = nowhere (replaced_same s n r _ e refl (s.next + 1) refl)
within_moves s n r q g e (parted u p bs a b l ok) = nowhere (replaced_same s n r _ e refl s.next refl)
within_moves s n r q g e (aborted u) = nowhere (replaced_same s n r _ e refl s.next refl)
within_moves s n r q g e (ruled rs few ok) = nowhere (replaced_same s n r _ e refl s.next refl)

pub moves : (s : State) {c : Call} {o : Out} → Good s → Step s c o → Spot s c o
moves s g (stands reply h) = nowhere (λ n k. refl)
moves s g (made n keeps ok free few) = nowhere (made_moves s n keeps)
moves s g (dropped n r e none) = nowhere (dropped_moves s n r e none)
moves s g (told t h) = record { room = []; key = []; moves = told_moves s t g }
moves s g (within n r q e left h) = within_moves s n r q g e h

-- WHERE A VERSION COMES FROM

-- w is v still, with at least its hold
pub record Like (v w : Version) : Type 0 where
  pub num : w.num ≡ v.num
  pub body : w.body ≡ v.body
  pub at : w.at ≡ v.at
  pub held : v.held ≤ w.held

pub like_itself : (v : Version) → Like v v
like_itself v = record { num = refl; body = refl; at = refl; held = omega arith }

pub data Origin (s : State) (room key n k : Name) (w : Version) : Type 0 where
  was : (v : Version) → Memᴰ v (versions_in n k s) → Like v w → Origin s room key n k w
  came : n ≡ room → k ≡ key → w.num ≡ s.next → Origin s room key n k w
  marks : w.num ≡ 0 → Origin s room key n k w

-- what stays below a new latest version was there
pub below_was : (now : ℕ) (keeps : Bool) (vs : List Version) (w : Version) → Memᴰ w (cond keeps vs (keep (is_held now) vs)) → Memᴰ w vs
below_was now true vs w m = m
below_was now false vs w m = (kept_was (is_held now) vs w m).there

pub origin : (s : State) (room key n k : Name) {now : ℕ} {c : Call} {vs : List Version} → Moves s now room key n k c vs → (w : Version) → Memᴰ w vs → Origin s room key n k w
origin s room key n k stay w m = was w m (like_itself w)
origin s room key n k (set r _ i j e h) w m = go h m
  where
    there : (v : Version) → Memᴰ v (at' k r) → Like v w → Origin s room key n k w
    there v m l = was v (rw (versions_found n k s r e) m) l

    top : (b : Body) → (w ≡ fresh s b) ⊎ Memᴰ w (cond r.keeps (at' k r) (keep (is_held s.now) (at' k r))) → Origin s room key n k w
    top b (inl d) = came i j (rw d refl)
    top b (inr m) = there w (below_was s.now r.keeps (at' k r) w m) (like_itself w)

    held : (num until : ℕ) → Changed (is_num num) (hold_to until) (at' k r) w → Origin s room key n k w
    held num until (inl t) = there t.0 t.2.there (rw t.1 (record { num = refl; body = refl; at = refl; held = higher_left t.0.held until }))
    held num until (inr m) = there w m (like_itself w)

    go : {c : Call} {reply : Reply} {next : ℕ} {us : List Upload} {vs : List Version} → Sets s n r k c reply next us vs → Memᴰ w vs → Origin s room key n k w
    go (new b wr l) m = top b (Memᴰ.cases_cons m)
    go (gone a b) m = absurd (Memᴰ.not-nil m)
    go (fewer num v z d f) m = there w (kept_was (λ (u : Version). not (is_num v.num u)) (at' k r) w m).there (like_itself w)
    go (longer num until v t d f) m = held num until (changed_was (is_num num) (hold_to until) (at' k r) w m)
origin s room key n k (ages t r _ e) w m = go (aged_was_or_mark (later t s.now) r.keeps (rule_for k r.rules) (at' k r) w m)
  where
    go : Memᴰ w (at' k r) ⊎ (w.num ≡ 0) → Origin s room key n k w
    go (inl m) = was w (rw (versions_found n k s r e) m) (like_itself w)
    go (inr z) = marks z
