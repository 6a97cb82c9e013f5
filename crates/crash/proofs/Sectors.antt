-- What a sector of a drive shows, and what it may hold after a cut.
-- Assumes nothing.
use mathlib.Core.Path.{◌≡◌, refl, sym, ◌∙◌, ap, subst, subst⁻¹}
use mathlib.Core.Logic.{◌⊎◌, inl, inr}
use mathlib.Core.Bool.{cond}
use mathlib.Core.List.Memᴰ
use mathlib.Core.List.{List, [], ◌∷◌, Memᴰ}
use Prim.Native.Nat.{ℕ}
use Rattle.drives.specs.Drives.{zeros, blank_drive, Drive, Slot, gone, there, latest, shown, written_to, synced_one, CutSlot, nothing, cut}
use Rattle.crash.proofs.Updates.{eqb_same, put_off}

-- A drive that is gone shows nothing, which is not the same as an empty sector.
pub data Sight : Type 0 where
  nowhere : Sight
  sees : List ℕ → Sight

abbrev pub sight : ℕ → Slot → Sight
sight s gone = nowhere
sight s (there d) = sees (latest (d.kept s) (d.since s))

-- Holds s C x: whatever sector s of the slot x may hold after a cut, now or then, is as C says.
pub data Holds (s : ℕ) (C : Sight → Type 0) : Slot → Type 0 where
  away : C nowhere → Holds s C gone
  held : {d : Drive} → C (sees (d.kept s)) → ((b : List ℕ) → Memᴰ b (d.since s) → C (sees b)) → Holds s C (there d)

-- SHOWN

-- what a read gives
abbrev pub text : Sight → List ℕ
text nowhere = []
text (sees b) = b

pub shown_sight : (s : ℕ) (x : Slot) → shown x s ≡ text (sight s x)
unfolding shown
shown_sight s gone = refl
shown_sight s (there d) = refl

-- what is written is seen; of another sector, and by a sync, nothing changes
pub sight_write : (s : ℕ) (b : List ℕ) (d : Drive) → sight s (written_to s b (there d)) ≡ sees b
unfolding written_to latest
sight_write s b d = ap (λ t. sees (latest (d.kept s) (cond t (b ∷ d.since s) (d.since s)))) (eqb_same s)

pub sight_write_off : (s t : ℕ) (b : List ℕ) (x : Slot) → (s ≡ t → ⊥) → sight s (written_to t b x) ≡ sight s x
unfolding written_to
sight_write_off s t b gone n = refl
sight_write_off s t b (there d) n = ap (λ y. sees (latest (d.kept s) y)) (put_off t s (b ∷ d.since t) d.since n)

pub sight_sync : (s : ℕ) (x : Slot) → sight s (synced_one x) ≡ sight s x
unfolding synced_one latest
sight_sync s gone = refl
sight_sync s (there d) = refl

pub shown_write_off : (s t : ℕ) (b : List ℕ) (x : Slot) → (s ≡ t → ⊥) → shown (written_to t b x) s ≡ shown x s
shown_write_off s t b x n = shown_sight s (written_to t b x) ∙ ap text (sight_write_off s t b x n) ∙ sym (shown_sight s x)

pub shown_sync : (s : ℕ) (x : Slot) → shown (synced_one x) s ≡ shown x s
shown_sync s x = shown_sight s (synced_one x) ∙ ap text (sight_sync s x) ∙ sym (shown_sight s x)

-- HELD

pub latest_of : (C : List ℕ → Type 0) (a : List ℕ) (bs : List (List ℕ)) → C a → ((b : List ℕ) → Memᴰ b bs → C b) → C (latest a bs)
unfolding latest
latest_of C a [] h k = h
latest_of C a (b ∷ bs) h k = k b (Memᴰ.head refl)

module _ {s : ℕ} {C : Sight → Type 0} where
  pub holds_sight : {x : Slot} → Holds s C x → C (sight s x)
  holds_sight (away h) = h
  holds_sight (held {d = d} h k) = latest_of (λ b. C (sees b)) (d.kept s) (d.since s) h k

  pub holds_more : {D : Sight → Type 0} {x : Slot} → ((c : Sight) → C c → D c) → Holds s C x → Holds s D x
  holds_more f (away h) = away (f nowhere h)
  holds_more f (held h k) = held (f _ h) (λ b m. f (sees b) (k b m))

  pub holds_write : (b : List ℕ) {x : Slot} → C (sees b) → Holds s C x → Holds s C (written_to s b x)
  unfolding written_to
  holds_write b c (away h) = away h
  holds_write b c (held {d = d} h k) = held h (λ e m. go e (subst (λ t. Memᴰ e (cond t (b ∷ d.since s) (d.since s))) (eqb_same s) m))
    where
      go : (e : List ℕ) → Memᴰ e (b ∷ d.since s) → C (sees e)
      go e (Memᴰ.head p) = subst⁻¹ (λ (y : List ℕ). C (sees y)) p c
      go e (Memᴰ.tail m) = k e m

  pub holds_write_off : {t : ℕ} (b : List ℕ) {x : Slot} → (s ≡ t → ⊥) → Holds s C x → Holds s C (written_to t b x)
  unfolding written_to
  holds_write_off b n (away h) = away h
  holds_write_off {t} b n (held {d = d} h k) = held h (λ e m. k e (subst (λ (y : List (List ℕ)). Memᴰ e y) (put_off t s (b ∷ d.since t) d.since n) m))

  -- once synced, a sector holds what it shows
  pub holds_synced : (x : Slot) → C (sight s x) → Holds s C (synced_one x)
  unfolding synced_one
  holds_synced gone h = away h
  holds_synced (there d) h = held h (λ b m. absurd (Memᴰ.not-nil m))

  pub holds_sync : {x : Slot} → Holds s C x → Holds s C (synced_one x)
  holds_sync {x} h = holds_synced x (holds_sight h)

  pub holds_cut : {x y : Slot} → CutSlot x y → Holds s C x → Holds s C y
  holds_cut nothing (away h) = away h
  holds_cut (cut d e k z) (held h w) = held (go (k s)) (λ b m. absurd (Memᴰ.not-nil (subst (λ (y : List (List ℕ)). Memᴰ b y) (z s) m)))
    where
      go : (e.kept s ≡ d.kept s) ⊎ Memᴰ (e.kept s) (d.since s) → C (sees (e.kept s))
      go (inl p) = subst⁻¹ (λ (y : List ℕ). C (sees y)) p h
      go (inr m) = w (e.kept s) m

  pub holds_blank : C (sees (zeros 512)) → Holds s C (there blank_drive)
  holds_blank c = held c (λ b m. absurd (Memᴰ.not-nil m))

-- CALM: all that a sector may hold is what it shows

abbrev pub Calm : ℕ → Slot → Type 0
Calm s x = Holds s (λ c. c ≡ sight s x) x

pub calm_holds : {s : ℕ} {C : Sight → Type 0} {x : Slot} → Calm s x → C (sight s x) → Holds s C x
calm_holds {C = C} h c = holds_more (λ b e. subst⁻¹ C e c) h

pub calm_blank : (s : ℕ) → Calm s (there blank_drive)
unfolding latest
calm_blank s = holds_blank refl

pub calm_sync : (s : ℕ) (x : Slot) → Calm s (synced_one x)
calm_sync s x = holds_synced x (sym (sight_sync s x))

pub calm_write_off : {s t : ℕ} (b : List ℕ) (x : Slot) → (s ≡ t → ⊥) → Calm s x → Calm s (written_to t b x)
calm_write_off {s} {t} b x n h = subst⁻¹ (λ (y : Sight). Holds s (λ c. c ≡ y) (written_to t b x)) (sight_write_off s t b x n) (holds_write_off b n h)

-- after a cut every sector is, and one that was before shows the same
pub calm_cut : (s : ℕ) {x y : Slot} → CutSlot x y → Calm s y
unfolding latest
calm_cut s nothing = away refl
calm_cut s (cut d e k z) = held (ap (λ bs. sees (latest (e.kept s) bs)) (sym (z s))) (λ b m. absurd (Memᴰ.not-nil (subst (λ (y : List (List ℕ)). Memᴰ b y) (z s) m)))

pub sight_cut : {s : ℕ} {x y : Slot} → CutSlot x y → Calm s x → sight s y ≡ sight s x
sight_cut c h = holds_sight (holds_cut c h)
