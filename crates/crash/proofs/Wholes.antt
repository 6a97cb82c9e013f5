-- Where only fair programs run, drives hold nothing but whole sectors.
-- Assumes nothing.
use mathlib.Core.Path.{◌≡◌, refl, subst, subst⁻¹}
use mathlib.Core.Logic.{◌⊎◌, inl, inr}
use mathlib.Core.Bool.{Bool, true, false, cond, true≢false}
use mathlib.Core.List.Memᴰ
use mathlib.Core.List.{List, ◌∷◌, Memᴰ}
use Prim.Native.Nat.{ℕ, zero, suc}
use native.Mathlib.Omega.{arith}
use lib.Dec.{T, eqb}
use lib.ListN.{length}
use Rattle.drives.specs.Drives.{zeros, all_bytes, blank_drive, Slot, gone, there, Drives, shown, written_to, synced_one, put, CutSlot, nothing, cut, AfterCut, Io, run, Upto, Fair}
use Rattle.drives.specs.Machines.{is_gone}
use Rattle.crash.specs.RefinementBy.{IsSector, WholeSlot, no_drive, sectors, Whole}
use Rattle.crash.proofs.Updates.{put_elim}
use Rattle.crash.proofs.Sectors.{latest_of}

zeros_long : (n : ℕ) → length (zeros n) ≡ n
unfolding zeros
zeros_long zero = refl
zeros_long (suc n) = omega (arith, zeros_long n)

zeros_bytes : (n : ℕ) → T (all_bytes (zeros n))
unfolding zeros all_bytes
zeros_bytes zero = tt
zeros_bytes (suc n) = zeros_bytes n

pub zeros_sector : IsSector (zeros 512)
zeros_sector = (zeros_long 512, zeros_bytes 512)

-- what is read of a drive that is there
pub shown_whole : (x : Slot) (s : ℕ) → is_gone x ≡ false → WholeSlot x → IsSector (shown x s)
unfolding shown is_gone
shown_whole gone s e w = absurd (true≢false e)
shown_whole (there d) s e (sectors h k) = latest_of IsSector (d.kept s) (d.since s) (h s) (k s)

pub whole_write : (s : ℕ) (b : List ℕ) {x : Slot} → IsSector b → WholeSlot x → WholeSlot (written_to s b x)
unfolding written_to
whole_write s b l no_drive = no_drive
whole_write s b l (sectors {x = d} h k) = sectors h (λ t c m. go t (eqb t s) c m)
  where
    go : (t : ℕ) (v : Bool) (c : List ℕ) → Memᴰ c (cond v (b ∷ d.since s) (d.since t)) → IsSector c
    go t true c (Memᴰ.head p) = subst⁻¹ IsSector p l
    go t true c (Memᴰ.tail m) = k s c m
    go t false c m = k t c m

pub whole_sync : {x : Slot} → WholeSlot x → WholeSlot (synced_one x)
unfolding synced_one
whole_sync no_drive = no_drive
whole_sync (sectors {x = d} h k) = sectors (λ s. latest_of IsSector (d.kept s) (d.since s) (h s) (k s)) (λ s b m. absurd (Memᴰ.not-nil m))

whole_cut : {x y : Slot} → CutSlot x y → WholeSlot x → WholeSlot y
whole_cut nothing w = no_drive
whole_cut (cut d e k z) (sectors h w) = sectors (λ s. go s (k s)) (λ s b m. absurd (Memᴰ.not-nil (subst (λ (y : List (List ℕ)). Memᴰ b y) (z s) m)))
  where
    go : (s : ℕ) → (e.kept s ≡ d.kept s) ⊎ Memᴰ (e.kept s) (d.since s) → IsSector (e.kept s)
    go s (inl p) = subst⁻¹ IsSector p (h s)
    go s (inr m) = w s (e.kept s) m

pub whole_blank : WholeSlot (there blank_drive)
whole_blank = sectors (λ s. zeros_sector) (λ s b m. absurd (Memᴰ.not-nil m))

pub whole_put : (i : ℕ) (x : Slot) {d : Drives} → WholeSlot x → Whole d → Whole (put i x d)
whole_put i x {d} h w j = put_elim WholeSlot i j x d (λ e. h) (λ n. w j)

pub whole_after : {f g : Drives} → AfterCut f g → Whole f → Whole g
whole_after c w i = whole_cut (c i) (w i)

pub fair_upto : {A : Type 0} {size : ℕ} {p : Io A} {d f : Drives} → Fair size p d → Whole d → Upto p d f → Whole f
fair_upto h w Upto.here = w
fair_upto (Fair.reads a b h) w (Upto.reads u) = fair_upto h w u
fair_upto (Fair.writes {i = i} {s = s} {b = b} {d = d} x y l v h) w (Upto.writes u) = fair_upto h (whole_put i (written_to s b (d i)) (whole_write s b (l, v) (w i)) w) u
fair_upto (Fair.syncs {i = i} {d = d} x h) w (Upto.syncs u) = fair_upto h (whole_put i (synced_one (d i)) (whole_sync (w i)) w) u

pub fair_run : {A : Type 0} {size : ℕ} (p : Io A) {d : Drives} → Fair size p d → Whole d → Whole (run p d).drives
unfolding run
fair_run (Io.answer a) h w = w
fair_run (Io.read i s k) (Fair.reads a b h) w = fair_run (k _) h w
fair_run (Io.write i s b p) {d} (Fair.writes x y l v h) w = fair_run p h (whole_put i (written_to s b (d i)) (whole_write s b (l, v) (w i)) w)
fair_run (Io.sync i p) {d} (Fair.syncs x h) w = fair_run p h (whole_put i (synced_one (d i)) (whole_sync (w i)) w)
