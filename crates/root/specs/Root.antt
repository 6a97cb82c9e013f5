-- The root record: one payload, a copy on each of six drives, and nothing counted.
-- Assumes nothing.
use Rattle.std.specs.Prelude.{◌≡◌, ℕ, zero, suc, ◌<◌, Bool, true, false, not, T, ◌⊎◌, List, [], length}
use Rattle.std.proofs.Math.Option.{Option, none, some}
use Rattle.drives.specs.Drives.{zeros, all_bytes, Drives, shown, Io, answer, Upto}
use Rattle.drives.specs.Machines.{Machine, Judge, atomic, Keeps, Within}
use Rattle.crash.specs.Loops.{on_each, write_if, read_all, sync_all}

-- LABELS

-- empty: nothing was ever committed
pub data Record (V : Type 0) : Type 0 where
  empty : Record V
  committed : V → Record V

-- What sector 0 of a drive says: the drive is not there, it is new, it is being filled, or it has a record.
pub data Label (V : Type 0) : Type 0 where
  missing blank rebuilding : Label V
  has : Record V → Label V

-- How labels are sectors. Bytes that are no label decode to `none`.
pub record Codec : Type 1 where
  pub V : Type 0
  pub first : V
  pub encode : Label V → List ℕ
  pub decode : List ℕ → Option (Label V)

-- A drive that is gone reads as nothing, a new one as zeros; every other label is a whole sector of bytes. What is encoded decodes to itself, and nothing else decodes.
pub record Lawful (K : Codec) : Type 0 where
  pub missing_is : K.encode missing ≡ []
  pub blank_is : K.encode blank ≡ zeros 512
  pub whole : (l : Label K.V) → (l ≡ missing) ⊎ (length (K.encode l) ≡ 512)
  pub bytes : (l : Label K.V) → T (all_bytes (K.encode l))
  pub there : (l : Label K.V) → K.decode (K.encode l) ≡ some l
  pub back : (b : List ℕ) (l : Label K.V) → K.decode b ≡ some l → K.encode l ≡ b

abbrev pub record_of : {V : Type 0} → Option (Label V) → Option (Record V)
record_of none = none
record_of (some missing) = none
record_of (some blank) = none
record_of (some rebuilding) = none
record_of (some (has r)) = some r

abbrev pub committed_of : {V : Type 0} → Option (Record V) → Option V
committed_of none = none
committed_of (some empty) = none
committed_of (some (committed v)) = some v

abbrev pub is_there : {A : Type 0} → Option A → Bool
is_there none = false
is_there (some a) = true

-- the record in a sector, and what is committed there
abbrev pub record_in : (K : Codec) → List ℕ → Option (Record K.V)
record_in K b = record_of (K.decode b)

abbrev pub committed_in : (K : Codec) → List ℕ → Option K.V
committed_in K b = committed_of (record_in K b)

-- A drive is trusted while its label is a record.
abbrev pub trusted : (K : Codec) → List ℕ → Bool
trusted K b = is_there (record_in K b)

abbrev pub untrusted : (K : Codec) → List ℕ → Bool
untrusted K b = not (trusted K b)

abbrev pub payload : (K : Codec) → Record K.V → K.V
payload K empty = K.first
payload K (committed v) = v

-- THE JUDGE

pub data Call (V : Type 0) : Type 0 where
  Set : V → Call V
  Get : Call V

pub data Reply (V : Type 0) : Type 0 where
  Done : Reply V
  Payload : V → Reply V

pub data Answers {V : Type 0} : Call V → V → Reply V → V → Type 0 where
  sets : (v s : V) → Answers (Set v) s Done v
  gets : (s : V) → Answers Get s (Payload s) s

-- One payload, which a cut leaves as it is; a call cut short was done or not.
abbrev pub judge : (K : Codec) → ℕ → Judge (Call K.V) (Reply K.V)
judge K size = atomic K.V K.first Answers (λ s. s)

-- THE MACHINE

-- the label of a record goes to each drive whose label f passes the test; then all are synced
unfoldable pub settle : {A : Type 0} (K : Codec) → (List ℕ → Bool) → Record K.V → A → (ℕ → List ℕ) → Io A
settle K t r a f = on_each 6 (write_if (λ i. t (f i)) 0 (λ i. K.encode (has r))) (sync_all (answer a))

abbrev pub or_else : {A : Type 0} → Option A → Option A → Option A
or_else none o = o
or_else (some a) o = some a

-- what is committed on the lowest of the drives below n, or else o
unfoldable pub lowest : (K : Codec) → ℕ → Option K.V → (ℕ → List ℕ) → Option K.V
lowest K zero o f = o
lowest K (suc n) o f = lowest K n (or_else (committed_in K (f n)) o) f

-- Where nothing is committed, every drive is told so: there is nothing yet that one could lack. Otherwise all trusted drives come to agree, and no other drive is trusted by that.
unfoldable pub opening : (K : Codec) → Option K.V → (ℕ → List ℕ) → Io (Record K.V)
opening K none = settle K (λ b. true) empty empty
opening K (some v) = settle K (trusted K) (committed v) (committed v)

-- In memory it keeps the record that all trusted drives have. A call reads the labels again: a drive may have been replaced since, unseen.
unfoldable pub does : (K : Codec) → Call K.V → Record K.V → Io (record { reply : Reply K.V; mem : Record K.V })
does K (Set v) m = read_all 0 (settle K (trusted K) (committed v) (record { reply = Done; mem = committed v }))
does K Get m = answer (record { reply = Payload (payload K m); mem = m })

abbrev pub machine : (K : Codec) → Machine (Call K.V) (Reply K.V)
machine K =
    record {
      Mem = Record K.V;
      opens = λ size. read_all 0 (λ f. opening K (lowest K 6 none f) f);
      does = does K;
      mends = λ m. read_all 0 (settle K (untrusted K) m (record { whole = true; mem = m }));
    }

-- THE THEOREM

-- what is not trusted in d shows the same label in f
abbrev pub NoNewTrust : (K : Codec) → Drives → Drives → Type 0
NoNewTrust K d f = (i : ℕ) → i < 6 → untrusted K (shown (d i) 0) ≡ true → shown (f i) 0 ≡ shown (d i) 0

-- Trust is earned: no call makes a drive trusted, nor does an opening that finds something committed. Only mending does, and the opening of a house where there is nothing to lack.
abbrev pub Earned : Codec → Type 0
Earned K =
    ((c : Call K.V) (m : Record K.V) (d f : Drives) → Upto (does K c m) d f → NoNewTrust K d f) ×
    ((size i : ℕ) (v : K.V) (d f : Drives) → i < 6 → committed_in K (shown (d i) 0) ≡ some v → Upto ((machine K).opens size) d f → NoNewTrust K d f)

-- THE ROOT STANDS: whatever happens, and whatever becomes of two drives, what was set is got.
abbrev pub RootStands : Codec → Type 0
RootStands K = Keeps (judge K) (machine K) × Within (machine K) × Earned K

-- A contract can't speak of all codecs at once. So it cites the theorem at one, which is whatever the caller gives.
pub record LawfulCodec : Type 1 where
  pub codec : Codec
  pub lawful : Lawful codec
