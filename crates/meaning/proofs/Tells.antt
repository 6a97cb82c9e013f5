-- Numbers rise, and a number tells one content for good.
-- Assumes nothing.
use Rattle.std.proofs.Common.{◌≡◌, ℕ, ◌+◌, ◌<◌, ◌≤◌, List, [], sym, refl, ◌∙◌, inl, inr, arith}
use mathlib.Core.List.Memᴰ
use mathlib.Core.List.{Memᴰ}
use Rattle.meaning.specs.Lists.{Name}
use Rattle.meaning.specs.Rooms.{Version, Upload, Room, State, Call, Reply, Yes, Num, Out}
use Rattle.meaning.specs.Does.{does, is_room}
use Rattle.meaning.specs.Laws.{Run, still, onward, fell, versions_in, uploads_in, Same, NumbersTell, NumbersRise}
use Rattle.meaning.proofs.Good.{Good}
use Rattle.meaning.proofs.Finds.{FoundOrNone, found, found_or_none}
use Rattle.meaning.proofs.Steps.{Silent, Sets, new, gone, fewer, longer, Within, sets, begun, parted, aborted, ruled, Step, stands, made, dropped, told, within, steps}
use Rattle.meaning.proofs.Heaps.{one_version}
use Rattle.meaning.proofs.Moves.{Spot, Origin, was, came, marks, origin, moves}
use Rattle.meaning.proofs.Bounds.{house, heap_in, good, good_run}

-- a reply that is a number is the next one, and counts it; no other counts
pub record Counts (s : State) (reply : Reply) (next : ℕ) : Type 0 where
  pub is_next : (k : ℕ) → reply ≡ Num k → k ≡ s.next
  pub counts : (k : ℕ) → reply ≡ Num k → next ≡ s.next + 1
  pub counts_no_other : Silent reply → next ≡ s.next
  pub no_less : s.next ≤ next

counted : (s : State) → Counts s (Num s.next) (s.next + 1)
counted s = record { is_next = λ k e. cc; counts = λ k e. refl; counts_no_other = λ silent. absurd (silent s.next refl); no_less = omega arith }

uncounted : (s : State) (reply : Reply) → Silent reply → Counts s reply s.next
uncounted s reply silent = record { is_next = λ k e. absurd (silent k e); counts = λ k e. absurd (silent k e); counts_no_other = λ _. refl; no_less = omega arith }

yes_silent : Silent Yes
yes_silent k e = let z : ◌≡◌ {A = ℕ} 0 1 = cc in omega arith

set_counts : (s : State) (n : Name) (r : Room) (k : Name) {c : Call} {reply : Reply} {next : ℕ} {us : List Upload} {vs : List Version} → Sets s n r k c reply next us vs → Counts s reply next
set_counts s n r k (new b w l) = counted s
set_counts s n r k (gone a b) = uncounted s Yes yes_silent
set_counts s n r k (fewer num v z e f) = uncounted s Yes yes_silent
set_counts s n r k (longer num until v t e f) = uncounted s Yes yes_silent

within_counts : (s : State) (n : Name) (r : Room) {c : Call} {reply : Reply} {next : ℕ} {q : Room} → Within s n r c reply next q → Counts s reply next
within_counts s n r (sets k h) = set_counts s n r k h
within_counts s n r (begun k name l) = counted s
within_counts s n r (parted u p bs a b l ok) = uncounted s Yes yes_silent
within_counts s n r (aborted u) = uncounted s Yes yes_silent
within_counts s n r (ruled rs few fit) = uncounted s Yes yes_silent

pub step_counts : (s : State) {c : Call} {o : Out} → Step s c o → Counts s o.reply o.state.next
step_counts s (stands reply silent) = uncounted s reply silent
step_counts s (made n keeps name free few) = uncounted s Yes yes_silent
step_counts s (dropped n r e none) = uncounted s Yes yes_silent
step_counts s (told t p) = uncounted s Yes yes_silent
step_counts s (within n r q e left w) = within_counts s n r w

uploads_below : (s : State) → Good s → (n : Name) (u : Upload) → Memᴰ u (uploads_in n s) → u.num < s.next
uploads_below s g n u m = go (found_or_none (is_room n) s.rooms)
  where
    go : FoundOrNone (is_room n) s.rooms → u.num < s.next
    go (inl e) = absurd (Memᴰ.not-nil (rw e at m))
    go (inr h) = (((house g).rooms_ok h.0 (found (is_room n) s.rooms h.0 [] h.1).there).uploads_ok.each_fits u (rw h.1 at m)).num_below

pub numbers_rise : NumbersRise
numbers_rise s c run =
    let g = good run in
    let k = step_counts s (steps c s) in
    record {
      is_next = k.is_next;
      counts = k.counts;
      counts_no_other = k.counts_no_other;
      versions_below = λ n l v m. ((heap_in s g n l).each_fits v m).num_below;
      uploads_below = uploads_below s g;
    }

pub next_grows : {s t : State} → Run s t → s.next ≤ t.next
next_grows still = omega arith
next_grows (onward {t = t} c run) = omega (arith, next_grows run, (step_counts t (steps c t)).no_less)
next_grows (fell run) = next_grows run

-- in one state a number is at one place, and there at one version
tells_now : (s : State) → Good s → (n m k l : Name) (v w : Version) → Memᴰ v (versions_in n k s) → Memᴰ w (versions_in m l s) → 1 ≤ v.num → v.num ≡ w.num → Same n m k l v w
tells_now s g n m k l v w i j one e =
    let (a, b) = g.once n m k l v w i j one e in
    let d : v ≡ w = one_version (versions_in n k s) (heap_in s g n k) v w i (rw (a, b) j) one e in
    record { body = rw d refl; at = rw d refl; room = a; key = b; held = rw d (omega arith) }

-- a version with a number that there was came from one with it, so it still says the same
tells_later : {s t : State} → Good s → Run s t → (n m k l : Name) (v w : Version) → Memᴰ v (versions_in n k s) → Memᴰ w (versions_in m l t) → 1 ≤ v.num →
    v.num ≡ w.num → Same n m k l v w
tells_later {s} g still n m k l v w i j one e = tells_now s g n m k l v w i j one e
tells_later {s} g (onward {t = t} c run) n m k l v w i j one e = go (tells_later g run n m k l v) (origin t _ _ m l (spot.moves m l) w j)
  where
    spot : Spot t c (does c t)
    spot = moves t (good_run g run) (steps c t)

    go : ((u : Version) → Memᴰ v (versions_in n k s) → Memᴰ u (versions_in m l t) → 1 ≤ v.num → v.num ≡ u.num → Same n m k l v u) →
        Origin t spot.room spot.key m l w → Same n m k l v w
    go earlier (was u j p) =
        let h = earlier u i j one (e ∙ p.num) in
        record { body = h.body ∙ sym p.body; at = h.at ∙ sym p.at; room = h.room; key = h.key; held = omega (arith, h.held, p.held) }
    go earlier (came a b d) = absurd (omega (arith, ((heap_in s g n k).each_fits v i).num_below, next_grows run))
    go earlier (marks z) = absurd (omega arith)
tells_later g (fell run) n m k l v w i j one e = tells_later g run n m k l v w i j one e

pub numbers_tell : NumbersTell
numbers_tell s t before run = tells_later (good before) run
