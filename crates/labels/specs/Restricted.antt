-- Labels with fewer payloads: a codec of labels, restricted to the payloads that mean something.
-- Assumes nothing.
use Rattle.std.specs.Prelude.{◌≡◌}
use Rattle.std.proofs.Math.Option.{Option, none, some, map}
use Rattle.root.specs.Root.{empty, committed, Label, missing, blank, rebuilding, has, Codec}

-- Some of the payloads W, as a type V of their own. What is no payload of V comes to `none`.
pub record Part (V W : Type 0) : Type 0 where
  pub into : V → W
  pub out : W → Option V

pub record LawfulPart {V W : Type 0} (p : Part V W) : Type 0 where
  pub there : (v : V) → p.out (p.into v) ≡ some v
  pub back : (w : W) (v : V) → p.out w ≡ some v → p.into v ≡ w

abbrev pub widened : {V W : Type 0} → Part V W → Label V → Label W
widened p missing = missing
widened p blank = blank
widened p rebuilding = rebuilding
widened p (has empty) = has empty
widened p (has (committed v)) = has (committed (p.into v))

abbrev pub narrowed : {V W : Type 0} → Part V W → Option (Label W) → Option (Label V)
narrowed p none = none
narrowed p (some missing) = some missing
narrowed p (some blank) = some blank
narrowed p (some rebuilding) = some rebuilding
narrowed p (some (has empty)) = some (has empty)
narrowed p (some (has (committed w))) = map (λ v. has (committed v)) (p.out w)

-- the labels of K whose payloads are of V; every other sector is no label
abbrev pub restricted : (K : Codec) (V : Type 0) → V → Part V K.V → Codec
restricted K V first p = record { V = V; first = first; encode = λ l. K.encode (widened p l); decode = λ b. narrowed p (K.decode b) }
