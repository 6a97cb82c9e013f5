-- The labels of this format version: the payload has the time in its first eight bytes, high byte first, and zeros in the others.
-- Assumes nothing.
use Rattle.std.specs.Prelude.{ℕ, ◌/◌, ◌%◌, Bool, true, false, cond, ◌&&◌, T, List, ◌++◌, nat_lt, drop, Option, None, Some}
use Rattle.std.proofs.Math.Option as math
use Rattle.std.proofs.Math.Option.{none, some}
use Rattle.std.proofs.Common.{mod-lt, lt→ltb, lit<}
use Rattle.std.specs.Int.{w64, to_be_bytes, from_be_bytes}
use Rattle.std.specs.Str.{bytes_eq}
use Rattle.drives.specs.Drives.{zeros, all_bytes}
use Rattle.root.specs.Root as root
use Rattle.root.specs.Labels.{fits_block, Block, labels}
use Rattle.labels.specs.Restricted.{Part, restricted}
use Rattle.labels.specs.declared.Label.{Label}
use Rattle.labels.specs.declared.Label.TheVariants.{Missing, Blank, Rebuilding, Empty, Committed, Foreign}
use Rattle.labels.specs.declared.Kind.{Kind}
use Rattle.labels.specs.declared.Kind.TheVariants as kind
use Rattle.register.specs.declared.Payload.{Payload}

-- a time that eight bytes hold
pub record Time : Type 0 where
  pub ms : ℕ
  pub low : T (nat_lt ms 18446744073709551616)

pub mod_low : (n : ℕ) → T (nat_lt (n % 18446744073709551616) 18446744073709551616)
mod_low n = lt→ltb (n % 18446744073709551616) 18446744073709551616 (mod-lt n (lit< tt))

abbrev pub time_of : ℕ → Time
time_of n = record { ms = n % 18446744073709551616; low = mod_low n }

-- the number that eight bytes say, from `at` on
abbrev pub number : (at : ℕ) → List ℕ → ℕ
number at b = from_be_bytes w64 (drop at b)

-- the byte that says a label's kind
abbrev pub byte_of : Kind → ℕ
byte_of kind.Empty = 1
byte_of kind.Committed = 2
byte_of kind.Rebuilding = 3

-- the 480 bytes of a payload, whose first eight have the time, the high byte first
abbrev pub payload_of : ℕ → List ℕ
payload_of n = to_be_bytes w64 n ++ zeros 472

byte : (n : ℕ) → T (nat_lt (n % 256) 256)
byte n = lt→ltb (n % 256) 256 (mod-lt n (lit< tt))

both : (a b : Bool) → T a → T b → T (a && b)
both true b x y = y
both false b x y = absurd x

pub payload_is_block : (n : ℕ) → T (fits_block (payload_of n))
unfolding zeros all_bytes
payload_is_block n =
    both _ _ (byte (n / 72057594037927936)) (both _ _ (byte (n / 281474976710656)) (both _ _ (byte (n / 1099511627776)) (both _ _ (byte (n / 4294967296))
    (both _ _ (byte (n / 16777216)) (both _ _ (byte (n / 65536)) (both _ _ (byte (n / 256)) (both _ _ (byte n) tt)))))))

abbrev pub time_in : List ℕ → math.Option Time
time_in b = cond (bytes_eq b (payload_of (number 0 b % 18446744073709551616))) (some (time_of (number 0 b))) none

abbrev pub times : Part Time Block
times = record { into = λ t. record { bytes = payload_of t.ms; is_block = payload_is_block t.ms }; out = λ w. time_in w.bytes }

-- THE LABELS
abbrev pub timed : root.Codec
timed = restricted labels Time (time_of 0) times

-- what a sector shows
abbrev pub label_of : math.Option (root.Label Time) → Label
label_of none = Foreign
label_of (some root.missing) = Missing
label_of (some root.blank) = Blank
label_of (some root.rebuilding) = Rebuilding
label_of (some (root.has root.empty)) = Empty
label_of (some (root.has (root.committed t))) = Committed (record { time = t.ms })

abbrev pub label_in : List ℕ → Label
label_in b = label_of (timed.decode b)

-- a drive is trusted while its label is a record
abbrev pub trusts : Label → Bool
trusts Missing = false
trusts Blank = false
trusts Rebuilding = false
trusts Empty = true
trusts (Committed p) = true
trusts Foreign = false

-- what was committed, by a label
abbrev pub committed_on : Label → Option Payload
committed_on Missing = None
committed_on Blank = None
committed_on Rebuilding = None
committed_on Empty = None
committed_on (Committed p) = Some p
committed_on Foreign = None

-- a record of the code, which is what was committed, if anything was; and the same to be read
abbrev pub record_for : Option Payload → root.Record Time
record_for None = root.empty
record_for (Some p) = root.committed (time_of p.time)

abbrev pub record_as : root.Record Time → Option Payload
record_as root.empty = None
record_as (root.committed t) = Some (record { time = t.ms })

abbrev pub label_bytes : Option Payload → List ℕ
label_bytes r = timed.encode (root.has (record_for r))

-- these labels are right, and with them the root record stands
abbrev pub LabelsStand : Type 0
LabelsStand = root.Lawful timed × root.RootStands timed
