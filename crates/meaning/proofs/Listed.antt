-- A list shows the keys of a room that begin so and come after, in order, and leaves none out.
-- Assumes nothing.
use Rattle.std.proofs.Common.{◌≡◌, ℕ, zero, suc, ◌<◌, ◌≤◌, Bool, true, false, cond, not, ◌&&◌, T, eqb, ltb, List, [], ◌∷◌, length, sym, refl, ap, subst, arith}
use mathlib.Core.List.{Memᴰ}
use Rattle.std.proofs.lemmas.Bool.{and_parts}
use Rattle.meaning.specs.Lists.{Name, keep, find, first_of, none, less, begins}
use Rattle.meaning.specs.Rooms.{Body, Bytes, Removed, Version, Object, Room, State, Look, Shown, List', Out}
use Rattle.meaning.specs.Does.{no, does, acts, is_tick, in_room_or, is_room, is_removed, bytes_of, current, num_of, small, shown_of}
use Rattle.meaning.specs.Laws.{InRoom, shown, Exact, rising_keys, rising_shown, ListExact}
use Rattle.meaning.proofs.Names.{so, is_so, less_irrefl, less_trans}
use Rattle.meaning.proofs.Good.{Pairs, Before}
use Rattle.meaning.proofs.Bounds.{good}
use Rattle.meaning.proofs.Finds.{found}

-- is it asked for
abbrev asked : (prefix after : Name) → Object → Bool
asked p a o = begins p o.key && less a o.key

abbrev line : Object → Version → List ℕ → Shown
line o v bs = record { key = o.key; num = v.num; size = length bs }

-- what a thing shows: nothing, or its latest version, which has bytes
data Shows (o : Object) (os : List Object) : List Shown → Type 0 where
  nothing : Shows o os (shown_of os)
  latest : (v : Version) (vs : List Version) (bs : List ℕ) → o.versions ≡ v ∷ vs → v.body ≡ Bytes bs → Shows o os (line o v bs ∷ shown_of os)

shown_line : (o : Object) (os : List Object) (v : Version) (vs : List Version) (bs : List ℕ) → o.versions ≡ v ∷ vs → v.body ≡ Bytes bs → shown_of (o ∷ os) ≡ line o v bs ∷ shown_of os
unfolding shown_of current none is_removed bytes_of num_of
shown_line o os v vs bs e f = rw (e, f) refl

shown_removed : (o : Object) (os : List Object) (v : Version) (vs : List Version) → o.versions ≡ v ∷ vs → v.body ≡ Removed → shown_of (o ∷ os) ≡ shown_of os
unfolding shown_of current none is_removed
shown_removed o os v vs e f = rw (e, f) refl

shown_none : (o : Object) (os : List Object) → o.versions ≡ [] → shown_of (o ∷ os) ≡ shown_of os
unfolding shown_of current none
shown_none o os e = rw e refl

shows : (o : Object) (os : List Object) → Shows o os (shown_of (o ∷ os))
shows o os = at o.versions refl
  where
    of : (v : Version) (vs : List Version) → o.versions ≡ v ∷ vs → (b : Body) → v.body ≡ b → Shows o os (shown_of (o ∷ os))
    of v vs e (Bytes bs) f = subst (Shows o os) (sym (shown_line o os v vs bs e f)) (latest v vs bs e f)
    of v vs e Removed f = subst (Shows o os) (sym (shown_removed o os v vs e f)) nothing

    at : (vs : List Version) → o.versions ≡ vs → Shows o os (shown_of (o ∷ os))
    at [] e = subst (Shows o os) (sym (shown_none o os e)) nothing
    at (v ∷ vs) e = of v vs e v.body refl

-- EACH IS THERE

each_shown : (r : Room) (p a : Name) (os : List Object) → ((o : Object) → Memᴰ o os → Memᴰ o r.objects) → (x : Shown) → Memᴰ x (shown_of (keep (asked p a) os)) → InRoom r p a x
unfolding keep shown_of
each_shown r p a [] within x m = elim m [ ]
each_shown r p a (o ∷ os) within x m =
    (elim (asked p a o) as (λ b. asked p a o ≡ b → Memᴰ x (shown_of (cond b (o ∷ keep (asked p a) os) (keep (asked p a) os))) → InRoom r p a x) [
      | true ↦ λ e m. this e (shown_of (o ∷ keep (asked p a) os)) (shows o (keep (asked p a) os)) m (each_shown r p a os (λ q i. within q (Memᴰ.tail i)) x)
      | false ↦ λ e m. each_shown r p a os (λ q i. within q (Memᴰ.tail i)) x m
    ]) refl m
  where
    this : asked p a o ≡ true → (xs : List Shown) → Shows o (keep (asked p a) os) xs → Memᴰ x xs → (Memᴰ x (shown_of (keep (asked p a) os)) → InRoom r p a x) → InRoom r p a x
    this e xs nothing m rest = rest m
    this e xs (latest v vs bs f g) (Memᴰ.head i) rest =
        subst (InRoom r p a) (sym i) (shown o v vs (within o (Memᴰ.head refl)) f bs g (so (and_parts (begins p o.key) (less a o.key) e).0) (so (and_parts (begins p o.key) (less a o.key) e).1))
    this e xs (latest v vs bs f g) (Memᴰ.tail m) rest = rest m

-- NONE IS LEFT OUT: before the cut
listed : (p a : Name) (os : List Object) (o : Object) (v : Version) (vs : List Version) (bs : List ℕ) → Memᴰ o os → o.versions ≡ v ∷ vs → v.body ≡ Bytes bs → asked p a o ≡ true →
    Memᴰ (line o v bs) (shown_of (keep (asked p a) os))
unfolding keep
listed p a [] o v vs bs m e f g = elim m [ ]
listed p a (q ∷ os) o v vs bs (Memᴰ.head i) e f g =
    subst (λ (q : Object). Memᴰ (line o v bs) (shown_of (keep (asked p a) (q ∷ os)))) i (rw (g, shown_line o (keep (asked p a) os) v vs bs e f) (Memᴰ.head refl))
listed p a (q ∷ os) o v vs bs (Memᴰ.tail m) e f g =
    elim (asked p a q) as (λ b. Memᴰ (line o v bs) (shown_of (cond b (q ∷ keep (asked p a) os) (keep (asked p a) os)))) [
      | true ↦ past (shown_of (q ∷ keep (asked p a) os)) (shows q (keep (asked p a) os)) (listed p a os o v vs bs m e f g)
      | false ↦ listed p a os o v vs bs m e f g
    ]
  where
    past : (xs : List Shown) → Shows q (keep (asked p a) os) xs → Memᴰ (line o v bs) (shown_of (keep (asked p a) os)) → Memᴰ (line o v bs) xs
    past xs nothing m = m
    past xs (latest w ws cs h k) m = Memᴰ.tail m

all_listed : (r : Room) (p a : Name) (x : Shown) → InRoom r p a x → Memᴰ x (shown_of (keep (asked p a) r.objects))
all_listed r p a x (shown o v vs m e bs f b l) = listed p a r.objects o v vs bs m e f (rw (is_so (begins p o.key) b, is_so (less a o.key) l) refl)

-- IN ORDER

abbrev Ahead : Shown → Shown → Type 0
Ahead x y = less x.key y.key ≡ true

-- a room of these things and nothing else
abbrev room_of : List Object → Room
room_of os = record { name = []; keeps = false; rules = []; objects = os; uploads = [] }

key_ahead : (k : Name) (p a : Name) (os : List Object) → ((o : Object) → Memᴰ o os → less k o.key ≡ true) → (x : Shown) → InRoom (room_of os) p a x → less k x.key ≡ true
key_ahead k p a os h x (shown o v vs m e bs f b l) = h o m

shown_rises : (p a : Name) (os : List Object) → Pairs Before os → Pairs Ahead (shown_of (keep (asked p a) os))
unfolding keep shown_of
shown_rises p a [] r = tt
shown_rises p a (o ∷ os) r =
    elim (asked p a o) as (λ b. Pairs Ahead (shown_of (cond b (o ∷ keep (asked p a) os) (keep (asked p a) os)))) [
      | true ↦ this (shown_of (o ∷ keep (asked p a) os)) (shows o (keep (asked p a) os)) (shown_rises p a os r.1)
      | false ↦ shown_rises p a os r.1
    ]
  where
    this : (xs : List Shown) → Shows o (keep (asked p a) os) xs → Pairs Ahead (shown_of (keep (asked p a) os)) → Pairs Ahead xs
    this xs nothing rest = rest
    this xs (latest v vs bs e f) rest = (λ y m. key_ahead o.key p a os r.0 y (each_shown (room_of os) p a os (λ q i. i) y m), rest)

first_in : (n : ℕ) (xs : List Shown) (x : Shown) → Memᴰ x (first_of n xs) → Memᴰ x xs
unfolding first_of
first_in zero xs x m = elim m [ ]
first_in (suc n) [] x m = m
first_in (suc n) (y ∷ xs) x (Memᴰ.head e) = Memᴰ.head e
first_in (suc n) (y ∷ xs) x (Memᴰ.tail m) = Memᴰ.tail (first_in n xs x m)

first_rises : (n : ℕ) (xs : List Shown) → Pairs Ahead xs → Pairs Ahead (first_of n xs)
unfolding first_of
first_rises zero xs r = tt
first_rises (suc n) [] r = tt
first_rises (suc n) (x ∷ xs) r = (λ y m. r.0 y (first_in n xs y m), first_rises n xs r.1)

rising_shown_lem : (xs : List Shown) → Pairs Ahead xs → T (rising_shown xs)
unfolding rising_shown
rising_shown_lem [] r = tt
rising_shown_lem (x ∷ []) r = tt
rising_shown_lem (x ∷ y ∷ xs) r = rw (r.0 y (Memᴰ.head refl)) (rising_shown_lem (y ∷ xs) r.1)

rising_keys_lem : (os : List Object) → Pairs Before os → T (rising_keys os)
unfolding rising_keys
rising_keys_lem [] r = tt
rising_keys_lem (o ∷ []) r = tt
rising_keys_lem (o ∷ q ∷ os) r = rw (r.0 q (Memᴰ.head refl)) (rising_keys_lem (q ∷ os) r.1)

-- THE CUT: what comes before one that is shown is shown, and where there is room left, all is

first_few : (n : ℕ) (xs : List Shown) → length (first_of n xs) ≤ n
unfolding first_of
first_few zero xs = omega arith
first_few (suc n) [] = omega arith
first_few (suc n) (x ∷ xs) = omega (arith, first_few n xs)

first_all : (n : ℕ) (xs : List Shown) (x : Shown) → Memᴰ x xs → length (first_of n xs) < n → Memᴰ x (first_of n xs)
unfolding first_of
first_all zero xs x m h = absurd (omega arith)
first_all (suc n) [] x m h = elim m [ ]
first_all (suc n) (y ∷ xs) x (Memᴰ.head e) h = Memᴰ.head e
first_all (suc n) (y ∷ xs) x (Memᴰ.tail m) h = Memᴰ.tail (first_all n xs x m (omega arith))

first_before : (n : ℕ) (xs : List Shown) (x y : Shown) → Pairs Ahead xs → Memᴰ x (first_of n xs) → Memᴰ y xs → less y.key x.key ≡ true → Memᴰ y (first_of n xs)
unfolding first_of
first_before zero xs x y r m i h = elim m [ ]
first_before (suc n) [] x y r m i h = elim m [ ]
first_before (suc n) (z ∷ xs) x y r m (Memᴰ.head e) h = Memᴰ.head e
first_before (suc n) (z ∷ xs) x y r (Memᴰ.head e) (Memᴰ.tail i) h = absurd (less_irrefl z.key (less_trans z.key y.key z.key (r.0 y i) (rw (ap (λ (w : Shown). w.key) e) at h)))
first_before (suc n) (z ∷ xs) x y r (Memᴰ.tail m) (Memᴰ.tail i) h = Memᴰ.tail (first_before n xs x y r.1 m i h)

-- THE LAW

-- what is answered by a list was no refusal
answered : (b c d : Bool) (s : State) (o : Out) (xs : List Shown) → (cond b (no 10 s) (cond c (no 8 s) (cond d (no 1 s) o))).reply ≡ List' xs → o.reply ≡ List' xs
answered true c d s o xs e = cc
answered false true d s o xs e = cc
answered false false true s o xs e = cc
answered false false false s o xs e = e

look_answers : (s : State) (n p a : Name) (most : ℕ) (r : Room) (xs : List Shown) → find (is_room n) s.rooms ≡ r ∷ [] → (does (Look n p a most) s).reply ≡ List' xs →
    xs ≡ first_of most (shown_of (keep (asked p a) r.objects))
unfolding acts is_tick in_room_or
look_answers s n p a most r xs e f =
    let h = answered (eqb s.now 0 && true) (not (small s.next) && true) (ltb 1000 most) s _ xs f in
    let g : List' (first_of most (shown_of (keep (asked p a) r.objects))) ≡ List' xs = rw e at h in
    cc

exact : (r : Room) (p a : Name) (most : ℕ) → Pairs Before r.objects → Exact r p a most (first_of most (shown_of (keep (asked p a) r.objects)))
exact r p a most rise =
    record {
      keys_rise = rising_keys_lem r.objects rise;
      list_rises = rising_shown_lem (first_of most all) (first_rises most all rises);
      each_is_there = λ x m. each_shown r p a r.objects (λ o i. i) x (first_in most all x m);
      none_left_out_before = λ x y m i h. first_before most all x y rises m (all_listed r p a y i) (is_so (less y.key x.key) h);
      none_left_out = λ x i h. first_all most all x (all_listed r p a x i) h;
      no_more = first_few most all;
    }
  where
    all : List Shown
    all = shown_of (keep (asked p a) r.objects)

    rises : Pairs Ahead all
    rises = shown_rises p a r.objects rise

-- as keys rise in a room, a list of it is exact
look_exact : (s : State) (n p a : Name) (most : ℕ) (r : Room) (xs : List Shown) → find (is_room n) s.rooms ≡ r ∷ [] → Pairs Before r.objects → (does (Look n p a most) s).reply ≡ List' xs →
    Exact r p a most xs
look_exact s n p a most r xs e rise f = subst (Exact r p a most) (sym (look_answers s n p a most r xs e f)) (exact r p a most rise)

pub list_exact : ListExact
list_exact s run n p a most r xs e f = look_exact s n p a most r xs e ((good run).rooms_good r (found (is_room n) s.rooms r [] e).there).keys_rise f
