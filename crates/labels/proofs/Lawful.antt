-- A restricted codec is lawful, and with it the labels that have a time.
-- Assumes nothing.
use Rattle.std.proofs.Common.{◌≡◌, ℕ, ◌<◌, Bool, true, false, cond, T, ltb, sym, refl, ap, ◌∙◌, subst, inl, inr, mod-eq_of_lt, arith, ltb→lt}
use mathlib.Core.Option.{Option, none, some, map}
use Rattle.std.specs.Str.{bytes_eq}
use Rattle.std.proofs.lemmas.Slice.Eq.{bytes_eq-Decides}
use Rattle.root.specs.Root.{empty, committed, Label, missing, blank, rebuilding, has, Codec, Lawful}
use Rattle.root.specs.Labels.{fits_block, Block, labels}
use Rattle.root.proofs.Labels.{labels_lawful}
use Rattle.root.proofs.Root.{root_stands}
use Rattle.labels.specs.Restricted.{Part, LawfulPart, widened, narrowed, restricted}
use Rattle.labels.specs.Times.{Time, time_of, number, payload_of, time_in, times, timed, LabelsStand}

-- A RESTRICTED CODEC IS LAWFUL

module _ {V W : Type 0} {p : Part V W} (h : LawfulPart p) where
  narrow_there : (l : Label V) → narrowed p (some (widened p l)) ≡ some l
  narrow_there missing = refl
  narrow_there blank = refl
  narrow_there rebuilding = refl
  narrow_there (has empty) = refl
  narrow_there (has (committed v)) = ap (map (λ x. has (committed x))) (h.there v)

  out_back : (w : W) (o : Option V) (l : Label V) → p.out w ≡ o → map (λ v. has (committed v)) o ≡ some l → has (committed w) ≡ widened p l
  out_back w none l e q = cc
  out_back w (some v) l e q = let i : p.into v ≡ w = h.back w v e in let j : has (committed v) ≡ l = cc in subst (λ x. has (committed w) ≡ widened p x) j (ap (λ x. has (committed x)) (sym i))

  narrow_back : (o : Option (Label W)) (l : Label V) → narrowed p o ≡ some l → o ≡ some (widened p l)
  narrow_back none l e = cc
  narrow_back (some missing) l e = let j : missing ≡ l = cc in subst (λ x. some missing ≡ some (widened p x)) j refl
  narrow_back (some blank) l e = let j : blank ≡ l = cc in subst (λ x. some blank ≡ some (widened p x)) j refl
  narrow_back (some rebuilding) l e = let j : rebuilding ≡ l = cc in subst (λ x. some rebuilding ≡ some (widened p x)) j refl
  narrow_back (some (has empty)) l e = let j : has empty ≡ l = cc in subst (λ x. some (has empty) ≡ some (widened p x)) j refl
  narrow_back (some (has (committed w))) l e = ap some (out_back w (p.out w) l refl e)

  wide_missing : (l : Label V) → widened p l ≡ missing → l ≡ missing
  wide_missing missing e = refl
  wide_missing blank e = cc
  wide_missing rebuilding e = cc
  wide_missing (has empty) e = cc
  wide_missing (has (committed v)) e = cc

pub restricted_lawful : (K : Codec) (V : Type 0) (first : V) (p : Part V K.V) → Lawful K → LawfulPart p → Lawful (restricted K V first p)
restricted_lawful K V first p k h =
    record {
      missing_is = k.missing_is;
      blank_is = k.blank_is;
      whole = λ l. elim (k.whole (widened p l)) [ inl e ↦ inl (wide_missing h l e) | inr e ↦ inr e ];
      bytes = λ l. k.bytes (widened p l);
      there = λ l. ap (narrowed p) (k.there (widened p l)) ∙ narrow_there h l;
      back = λ b l e. k.back b (widened p l) (narrow_back h (K.decode b) l e);
    }

-- TIMES ARE SUCH A PART OF THE PAYLOADS

any_two : (b : Bool) (x y : T b) → x ≡ y
any_two true x y = refl
any_two false x y = absurd x

pub same_time : (s t : Time) → s.ms ≡ t.ms → s ≡ t
same_time s t e =
    subst (λ n. (h : T (ltb n 18446744073709551616)) → s ≡ record { ms = n; low = h }) e (λ h. ap (λ x. record { ms = s.ms; low = x }) (any_two (ltb s.ms 18446744073709551616) s.low h)) t.low

same_block : (v w : Block) → v.bytes ≡ w.bytes → v ≡ w
same_block v w e =
    subst (λ b. (h : T (fits_block b)) → v ≡ record { bytes = b; is_block = h }) e (λ h. ap (λ x. record { bytes = v.bytes; is_block = x }) (any_two (fits_block v.bytes) v.is_block h)) w.is_block

-- a time is what its eight bytes say
number_eight : (n : ℕ) → n < 18446744073709551616 → number 0 (payload_of n) ≡ n
number_eight n h = omega arith

pub time_of_lem : (t : Time) → time_of t.ms ≡ t
time_of_lem t = same_time (time_of t.ms) t (mod-eq_of_lt (ltb→lt t.ms 18446744073709551616 t.low))

pub number_is : (t : Time) → number 0 (payload_of t.ms) ≡ t.ms
number_is t = number_eight t.ms (ltb→lt t.ms 18446744073709551616 t.low)

number_time : (t : Time) → time_of (number 0 (payload_of t.ms)) ≡ t
number_time t = ap time_of (number_is t) ∙ time_of_lem t

times_lawful : LawfulPart times
times_lawful = record { there = there; back = back }
  where
    there : (t : Time) → time_in (payload_of t.ms) ≡ some t
    there t =
        let e = number_time t in
        let s : bytes_eq (payload_of t.ms) (payload_of (time_of (number 0 (payload_of t.ms))).ms) ≡ true = (bytes_eq-Decides _ _).1 (ap (λ x. payload_of x.ms) (sym e)) in
        ap (λ v. cond v (some (time_of (number 0 (payload_of t.ms)))) none) s ∙ ap some e

    back : (w : Block) (t : Time) → time_in w.bytes ≡ some t → times.into t ≡ w
    back w t = go (bytes_eq w.bytes (payload_of (time_of (number 0 w.bytes)).ms)) refl
      where
        go : (v : Bool) → bytes_eq w.bytes (payload_of (time_of (number 0 w.bytes)).ms) ≡ v → cond v (some (time_of (number 0 w.bytes))) none ≡ some t → times.into t ≡ w
        go true h e =
            let i : time_of (number 0 w.bytes) ≡ t = cc in
            same_block (times.into t) w (ap (λ x. payload_of x.ms) (sym i) ∙ sym ((bytes_eq-Decides _ _).0 h))
        go false h e = cc

pub timed_lawful : Lawful timed
timed_lawful = restricted_lawful labels Time (time_of 0) times labels_lawful times_lawful

pub labels_stand : LabelsStand
labels_stand = (timed_lawful, root_stands timed timed_lawful)
