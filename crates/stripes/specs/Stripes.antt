-- Rows and one payload on six drives, of which two at a time may be lost, blank or half rebuilt.
-- Assumes nothing.
use Rattle.std.specs.Prelude.{Bool, true, false, cond, not, ◌&&◌, List, [], ℕ, zero, suc, ◌+◌, ◌-◌, ◌*◌, ◌/◌, ◌≤◌, min, eqb, ltb, length}
use Rattle.std.proofs.Math.Option.{Option, none, some}
use Rattle.drives.specs.Drives.{Drives, put, Io, answer, ops_of}
use Rattle.drives.specs.Machines.{Machine, Judge, KeepsBy, Within}
use Rattle.crash.specs.Loops.{on_each, write_if, sync_all, read_all, read_if, count, any}
use Rattle.root.specs.Root.{Label, missing, blank, rebuilding, has, Record, empty, committed, Codec, Lawful, trusted, payload, lowest}
use Rattle.rows.specs.Rows.{Call, ReadRow, WriteRow, SetRoot, GetRoot, Reply, RowIs, Done, NoRow, PayloadIs, rows_judge, rows_in}
use Rattle.stripes.specs.Coding.{Coding, LawfulCoding}

-- WHERE ROWS LIE: the sectors of all rows, one after the other, begin at sector 8 of each drive

abbrev pub sector_at : (place : ℕ) → ℕ
sector_at p = 8 + p

abbrev pub place_of : (row sector : ℕ) → ℕ
place_of r k = 8 * r + k

-- how many places there are
abbrev pub places : (size : ℕ) → ℕ
places size = 8 * rows_in size

-- WHAT LABELS SAY

abbrev pub is_mark : {V : Type 0} → Option (Label V) → Bool
is_mark none = false
is_mark (some missing) = false
is_mark (some blank) = false
is_mark (some rebuilding) = true
is_mark (some (has r)) = false

-- a drive that is there and shows no record is to be rebuilt
abbrev pub is_bare : (K : Codec) → List ℕ → Bool
is_bare K b = not (trusted K b) && not (eqb (length b) 0)

-- one without the rebuild mark is new, or was replaced once more, unseen
abbrev pub is_new : (K : Codec) → List ℕ → Bool
is_new K b = is_bare K b && not (is_mark (K.decode b))

-- the first four trusted drives
abbrev pub taken : (K : Codec) → (ℕ → List ℕ) → ℕ → Bool
taken K f i = trusted K (f i) && ltb (count (λ j. trusted K (f j)) i) 4

-- what was read of the drives that pass a test
abbrev pub picked : (ℕ → Bool) → (ℕ → List ℕ) → ℕ → Option (List ℕ)
picked t h i = cond (t i) (some (h i)) none

-- THE MACHINE

-- root: the record that all trusted drives have; place: how far rebuilding is
pub record Mem (V : Type 0) : Type 0 where
  pub size : ℕ
  pub root : Record V
  pub place : ℕ

abbrev pub Answered : Codec → Coding → Type 0
Answered K Z = record { reply : Reply Z.Row K.V; mem : Mem K.V }

abbrev pub Mended : Codec → Type 0
Mended K = record { whole : Bool; mem : Mem K.V }

-- the label of a record goes to the drives that pass a test; then all are synced
unfoldable pub settle : {A : Type 0} (K : Codec) → (ℕ → Bool) → Record K.V → A → Io A
settle K t r a = on_each 6 (write_if t 0 (λ i. K.encode (has r))) (sync_all (answer a))

-- Where nothing is committed, every drive is told so: there is nothing yet that one could lack. Otherwise all trusted drives come to agree, and no other drive is trusted by that.
unfoldable pub opening : (K : Codec) → ℕ → Option K.V → (ℕ → List ℕ) → Io (Mem K.V)
opening K size none f = settle K (λ i. true) empty (record { size = size; root = empty; place = 0 })
opening K size (some v) f = settle K (λ i. trusted K (f i)) (committed v) (record { size = size; root = committed v; place = 0 })

-- n sectors from s on, of the drives that pass a test
unfoldable pub gather_row : {A : Type 0} → (ℕ → Bool) → ℕ → ℕ → (ℕ → ℕ → List ℕ) → ((ℕ → ℕ → List ℕ) → Io A) → Io A
gather_row t s zero g k = k g
gather_row t s (suc n) g k = read_if t (s + n) (λ h. gather_row t s n (put n h g) k)

-- A row is read from four drives that show a record, looked at in this very call.
abbrev pub read_row : (K : Codec) (Z : Coding) → ℕ → Mem K.V → Io (Answered K Z)
read_row K Z r m = read_all 0 (λ f. gather_row (taken K f) (sector_at (place_of r 0)) 8 (λ k i. []) (λ g. answer (record { reply = RowIs (Z.join (λ k. picked (taken K f) (g k))); mem = m })))

-- It is written to all six, without looking: a drive that is gone takes no writing, one that is being rebuilt gets it too.
abbrev pub write_row : (K : Codec) (Z : Coding) → ℕ → Z.Row → Mem K.V → Io (Answered K Z)
write_row K Z r b m = on_each 8 (λ k. on_each 6 (write_if (λ i. true) (sector_at (place_of r k)) (Z.shard b k))) (answer (record { reply = Done; mem = m }))

-- A commit syncs all drives first, so that rows are there before a record says so.
abbrev pub commit_root : (K : Codec) (Z : Coding) → K.V → Mem K.V → Io (Answered K Z)
commit_root K Z v m =
    sync_all (read_all 0 (λ f. settle K (λ i. trusted K (f i)) (committed v) (record { reply = Done; mem = record { size = m.size; root = committed v; place = m.place } })))

abbrev pub no_row : (K : Codec) (Z : Coding) → Mem K.V → Io (Answered K Z)
no_row K Z m = answer (record { reply = NoRow; mem = m })

unfoldable pub does : (K : Codec) (Z : Coding) → Call Z.Row K.V → Mem K.V → Io (Answered K Z)
does K Z (ReadRow r) m = cond (ltb r (rows_in m.size)) (read_row K Z r m) (no_row K Z m)
does K Z (WriteRow r b) m = cond (ltb r (rows_in m.size)) (write_row K Z r b m) (no_row K Z m)
does K Z (SetRoot v) m = commit_root K Z v m
does K Z GetRoot m = answer (record { reply = PayloadIs (payload K m.root); mem = m })

-- MENDING

-- how many places a stretch goes on
abbrev pub stride : ℕ
stride = 672

-- one place is rebuilt, for all drives that are bare
unfoldable pub rebuild_one : {A : Type 0} (K : Codec) (Z : Coding) → (ℕ → List ℕ) → ℕ → Io A → Io A
rebuild_one K Z f p q = read_if (taken K f) (sector_at p) (λ h. on_each 6 (write_if (λ i. is_bare K (f i)) (sector_at p) (Z.fill (picked (taken K f) h))) q)

-- n places, from p on
unfoldable pub rebuild_from : {A : Type 0} (K : Codec) (Z : Coding) → (ℕ → List ℕ) → ℕ → ℕ → Io A → Io A
rebuild_from K Z f zero p q = q
rebuild_from K Z f (suc n) p q = rebuild_one K Z f p (rebuild_from K Z f n (suc p) q)

abbrev pub placed : {V : Type 0} → ℕ → Mem V → Mem V
placed p m = record { size = m.size; root = m.root; place = p }

abbrev pub says : (K : Codec) → Bool → Mem K.V → Io (Mended K)
says K b m = answer (record { whole = b; mem = m })

-- What was rebuilt is synced, then the current record is written, and synced, and then whole is said.
abbrev pub rejoin : (K : Codec) → (ℕ → List ℕ) → Mem K.V → Io (Mended K)
rejoin K f m = sync_all (settle K (λ i. is_bare K (f i)) m.root (record { whole = true; mem = m }))

-- once all places are done
unfoldable pub finish : (K : Codec) → (ℕ → List ℕ) → Mem K.V → Io (Mended K)
finish K f m = cond (ltb m.place (places m.size)) (says K false m) (rejoin K f m)

abbrev pub ahead : {V : Type 0} → Mem V → ℕ
ahead m = min stride (places m.size - m.place)

unfoldable pub stretch : (K : Codec) (Z : Coding) → (ℕ → List ℕ) → Mem K.V → Io (Mended K)
stretch K Z f m = rebuild_from K Z f (ahead m) m.place (finish K f (placed (m.place + ahead m) m))

-- all that are bare are marked, and begun anew
abbrev pub mark_all : (K : Codec) (Z : Coding) → (ℕ → List ℕ) → Mem K.V → Io (Mended K)
mark_all K Z f m = on_each 6 (write_if (λ i. is_bare K (f i)) 0 (λ i. K.encode rebuilding)) (stretch K Z f (placed 0 m))

-- so it is where one is new; with nothing to rebuild all is whole, also with drives that are gone
abbrev pub is_any_new : (K : Codec) → (ℕ → List ℕ) → Bool
is_any_new K f = any (λ i. is_new K (f i)) 6

abbrev pub is_any_bare : (K : Codec) → (ℕ → List ℕ) → Bool
is_any_bare K f = any (λ i. is_bare K (f i)) 6

unfoldable pub mending : (K : Codec) (Z : Coding) → Mem K.V → (ℕ → List ℕ) → Io (Mended K)
mending K Z m f = cond (is_any_bare K f) (cond (is_any_new K f) (mark_all K Z f m) (stretch K Z f m)) (says K true m)

abbrev pub stripes : (K : Codec) (Z : Coding) → Machine (Call Z.Row K.V) (Reply Z.Row K.V)
stripes K Z =
    record {
      Mem = Mem K.V;
      opens = λ size. read_all 0 (λ f. opening K size (lowest K 6 none f) f);
      does = does K Z;
      mends = λ m. read_all 0 (mending K Z m);
    }

-- THE THEOREM

abbrev pub judge : (K : Codec) (Z : Coding) → ℕ → Judge (Call Z.Row K.V) (Reply Z.Row K.V)
judge K Z size = rows_judge Z.zero_row K.first (rows_in size)

-- within how many stretches all is whole, from the last loss, replacement or cut on
abbrev pub soon : (size : ℕ) → ℕ
soon size = size / stride + 1

-- how much is asked for: reading a row, writing one, an opening
abbrev pub AsksLittle : Codec → Coding → Type 0
AsksLittle K Z =
    ((r : ℕ) (m : Mem K.V) (d : Drives) → ops_of (does K Z (ReadRow r) m) d ≤ 38) ×
    ((r : ℕ) (b : Z.Row) (m : Mem K.V) (d : Drives) → ops_of (does K Z (WriteRow r b) m) d ≤ 48) ×
    ((v : K.V) (m : Mem K.V) (d : Drives) → ops_of (does K Z (SetRoot v) m) d ≤ 24) ×
    ((size : ℕ) (d : Drives) → ops_of ((stripes K Z).opens size) d ≤ 18)

-- STRIPES STAND: whatever is called, wherever the power fails, whichever two drives are lost and replaced, rows and payload are as their judge says; mending says whole soon, in short stretches; little is asked for.
abbrev pub StripesStand : Codec → Coding → Type 0
StripesStand K Z = KeepsBy soon (judge K Z) (stripes K Z) × Within (stripes K Z) × AsksLittle K Z

-- A contract can't speak of all labels and codings at once. So it cites the theorem at those that the caller gives.
pub record Setting : Type 1 where
  pub codec : Codec
  pub lawful : Lawful codec
  pub coding : Coding
  pub lawful_coding : LawfulCoding coding
