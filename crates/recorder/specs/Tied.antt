-- The code of the root record is the machine to be read, request by request.
-- Assumes nothing.
use Rattle.std.specs.Prelude.{◌≡◌, ℕ, suc, Bool, true, false, cond, not, List, [], ◌∷◌, map, length, slice_index_or, Option, None, Some, unwrap_or}
use Rattle.std.proofs.Math.Path.{refl, subst⁻¹}
use Rattle.std.proofs.Common.{◌∙◌, ap, subst, inl, inr}
use Rattle.std.proofs.Math.Option as math
use Rattle.std.proofs.Math.Option.{none, some}
use Rattle.drives.specs.Drives.{put, Io, answer, write, then'}
use Rattle.drives.specs.Layers.{gives, through}
use Rattle.crash.specs.Loops.{on_each, write_if, sync_all, gather, read_all}
use Rattle.register.specs.Register.{kept}
use Rattle.register.specs.Register as register
use Rattle.register.specs.declared.Payload.{Payload}
use Rattle.register.specs.declared.Call.{Call}
use Rattle.register.specs.declared.Reply.{Reply}
use Rattle.register.specs.declared.Reply.TheVariants as reply
use Rattle.register.specs.declared.Call.TheVariants.{Set, Get}
use Rattle.root.specs.Root as root
use Rattle.root.specs.Root.{settle, lowest, or_else, opening, does}
use Rattle.labels.specs.declared.Label.{Label}
use Rattle.labels.specs.declared.Label.TheVariants.{Missing}
use Rattle.labels.specs.Times.{Time, time_of, timed, label_of, label_in, label_bytes, trusts, record_for, record_as}
use Rattle.labels.proofs.Lawful.{time_of_lem, timed_lawful}
use Rattle.labels.proofs.Shows.{trust_is}
use Rattle.mending.specs.Stretches.{lacks}
use Rattle.steps.specs.Steps.{Held, Stepped, unused, Ample, placed, first}
use Rattle.steps.specs.Ties.{Goes, Tied}
use Rattle.steps.specs.declared.Lent.{Lent}
use Rattle.steps.specs.declared.Ask.TheVariants.{Write, Again, Done}
use Rattle.steps.specs.Does.{Does, answers, reads, writes, syncs, again, follows}
use Rattle.steps.proofs.Lents.{unused_ample, placed_ample, sector_placed}
use Rattle.recorder.specs.declared.Drives.{Drives}
use Rattle.recorder.specs.declared.Task.{Task}
use Rattle.recorder.specs.declared.Task.TheVariants.{Opens, Sets, Mends}
use Rattle.recorder.specs.declared.Phase.TheVariants.{Begun, Reading, Writing, Syncing, Over}
use Rattle.recorder.specs.declared.Recorder.{Recorder}
use Rattle.recorder.specs.Recording.{moved, decided, lowest_in, gets_at_first, goes, starts_on, said_by, reply_as, recorder_code, recorded, RecorderSame}

-- WHAT A SECTOR SHOWS IS WHAT THE MACHINE SEES IN IT

-- what is committed, as a record
abbrev found : math.Option Time → Option Payload
found none = None
found (some t) = Some (record { time = t.ms })

-- the code finds in labels what the machine finds
record Finds (ls : List Label) (p : math.Option Time) : Type 0 where
  is : lowest_in ls ≡ found p

finds_none : Finds [] none
finds_none = record { is = refl }

lowest_of : (o : math.Option (root.Label Time)) (ls : List Label) (p : math.Option Time) → lowest_in ls ≡ found p → lowest_in (label_of o ∷ ls) ≡ found (or_else (root.committed_of (root.record_of o)) p)
lowest_of none ls p e = e
lowest_of (some root.missing) ls p e = e
lowest_of (some root.blank) ls p e = e
lowest_of (some root.rebuilding) ls p e = e
lowest_of (some (root.has root.empty)) ls p e = e
lowest_of (some (root.has (root.committed t))) ls p e = refl

finds_more : (b : List ℕ) {ls : List Label} {p : math.Option Time} → Finds ls p → Finds (label_in b ∷ ls) (or_else (root.committed_in timed b) p)
finds_more b {ls} {p} f = record { is = lowest_of (timed.decode b) ls p f.is }

-- WHAT IS WRITTEN IS THE LABEL OF THE MACHINE'S RECORD

again_is : (m : root.Record Time) → record_for (record_as m) ≡ m
again_is root.empty = refl
again_is (root.committed t) = ap root.committed (time_of_lem t)

bytes_are : (m : root.Record Time) → label_bytes (record_as m) ≡ timed.encode (root.has m)
bytes_are m = ap (λ x. timed.encode (root.has x)) (again_is m)

record_long : (m : root.Record Time) → length (timed.encode (root.has m)) ≡ 512
record_long m = elim (timed_lawful.whole (root.has m)) [ inl e ↦ cc | inr e ↦ e ]

-- LOOPS

abbrev f : Held Recorder → List ℕ → Stepped Recorder
f = recorder_code.steps

-- from the writes on, with a record m and a test t of drives
module _ {A B : Type 0} {S : Held Recorder → B → Type 0} (g : A → Io B) (a : A) (t : ℕ → Bool) (m : root.Record Time) (gets : List Bool) (r : Recorder)
    (is : r.current ≡ record_as m) (done : (lent : Lent) → Ample lent → Goes f S 1 (goes (moved Over r) lent Done) (g a)) where
  abbrev bytes : List ℕ
  bytes = timed.encode (root.has m)

  abbrev syncing : Io A
  syncing = sync_all (answer a)

  syncs_all : (lent : Lent) → Ample lent → Does f S 8 (goes (moved (Syncing 6) r) lent Again) syncing g
  unfolding on_each
  syncs_all lent h = again (syncs (syncs (syncs (syncs (syncs (syncs (answers (done lent h))))))))

  -- drive i gets the record, or does not
  write_one :
      (n i : ℕ) (p : Io A) (v : Bool) → v ≡ t i →
      ((lent : Lent) → Ample lent → Does f S n (f (record { me = moved (Writing i gets) r; lent = lent }) []) p g) →
      (lent : Lent) → Ample lent →
      Does f S (suc n) (cond v (goes (moved (Writing i gets) r) (placed 0 (label_bytes r.current) lent) (Write i 0 0)) (goes (moved (Writing i gets) r) lent Again)) (write_if t 0 (λ j. bytes) i p) g
  write_one n i p v e next lent h =
      subst (λ u. Does f S (suc n) (cond v (goes (moved (Writing i gets) r) (placed 0 (label_bytes r.current) lent) (Write i 0 0)) (goes (moved (Writing i gets) r) lent Again)) (cond u (write i 0 bytes p) p) g) e (go v)
    where
      label : label_bytes r.current ≡ bytes
      label = ap label_bytes is ∙ bytes_are m

      long : length (label_bytes r.current) ≡ 512
      long = ap length label ∙ record_long m

      go : (u : Bool) → Does f S (suc n) (cond u (goes (moved (Writing i gets) r) (placed 0 (label_bytes r.current) lent) (Write i 0 0)) (goes (moved (Writing i gets) r) lent Again)) (cond u (write i 0 bytes p) p) g
      go true = writes (sector_placed lent h 0 (label_bytes r.current) long ∙ label) (next (placed 0 (label_bytes r.current) lent) (placed_ample lent h 0 (label_bytes r.current)))
      go false = again (next lent h)

  writes_all :
      slice_index_or gets 0 false ≡ t 0 → slice_index_or gets 1 false ≡ t 1 → slice_index_or gets 2 false ≡ t 2 → slice_index_or gets 3 false ≡ t 3 → slice_index_or gets 4 false ≡ t 4 → slice_index_or gets 5 false ≡ t 5 →
      (lent : Lent) → Ample lent → Does f S 14 (f (record { me = moved (Writing 6 gets) r; lent = lent }) []) (on_each 6 (write_if t 0 (λ j. bytes)) syncing) g
  unfolding on_each
  writes_all e₀ e₁ e₂ e₃ e₄ e₅ =
      write_one 13 5 _ _ e₅ (write_one 12 4 _ _ e₄ (write_one 11 3 _ _ e₃ (write_one 10 2 _ _ e₂ (write_one 9 1 _ _ e₁ (write_one 8 0 _ _ e₀ syncs_all)))))

-- what six drives showed
record Six : Type 0 where
  b₀ : List ℕ
  b₁ : List ℕ
  b₂ : List ℕ
  b₃ : List ℕ
  b₄ : List ℕ
  b₅ : List ℕ

abbrev sectors : Six → ℕ → List ℕ
sectors x = put 0 x.b₀ (put 1 x.b₁ (put 2 x.b₂ (put 3 x.b₃ (put 4 x.b₄ (put 5 x.b₅ (λ i. []))))))

abbrev labels_in : Six → List Label
labels_in x = label_in x.b₀ ∷ label_in x.b₁ ∷ label_in x.b₂ ∷ label_in x.b₃ ∷ label_in x.b₄ ∷ label_in x.b₅ ∷ []

-- all labels are read; it is decided what to write, and nothing is written yet
abbrev saw : Six → Drives
saw x = record { seen = labels_in x }

-- the recorder as it was until the last label came
abbrev reading : Six → Recorder → Recorder
reading x r =
    moved (Reading 0 (record { seen = Missing ∷ label_in x.b₁ ∷ label_in x.b₂ ∷ label_in x.b₃ ∷ label_in x.b₄ ∷ label_in x.b₅ ∷ [] })) r

abbrev ready : List Bool → Option Payload → Task → Recorder
ready gets c k = record { current = c; task = k; phase = Writing 6 gets }

-- from the beginning on: all labels are read, and then it is decided
reads_all :
    {A B : Type 0} {S : Held Recorder → B → Type 0} (g : A → Io B) (k : (ℕ → List ℕ) → Io A) (r : Recorder) (lent : Lent) →
    ((x : Six) → Does f S 15 (goes (decided r.task (saw x) (reading x r)) lent Again) (k (sectors x)) g) →
    Does f S 21 (f (record { me = moved Begun r; lent = lent }) []) (read_all 0 k) g
unfolding gather
reads_all g k r lent next =
    reads (λ b₅. reads (λ b₄. reads (λ b₃. reads (λ b₂. reads (λ b₁. reads (λ b₀. next (record { b₀ = b₀; b₁ = b₁; b₂ = b₂; b₃ = b₃; b₄ = b₄; b₅ = b₅ })))))))

abbrev Same : ℕ → Held Recorder → recorded.Mem → Type 0
Same = RecorderSame

-- OPENING: what is committed is settled, or that nothing is

abbrev G : root.Record Time → Io recorded.Mem
G m = then' (through (root.machine timed) (gives tt) m) (λ x. answer (record { below = x.below; above = x.value }))

opened : (size : ℕ) (m : root.Record Time) (r : Recorder) → r.current ≡ record_as m → (lent : Lent) → Ample lent → Goes f (Same size) 1 (goes r lent Done) (G m)
unfolding then' through
opened size m r e lent h = Goes.ends (e, h)

opens_by : (size : ℕ) (x : Six) (o : math.Option Time) → Does f (Same size) 14 (f (record { me = ready (gets_at_first (found o) (labels_in x)) (found o) Opens; lent = unused }) []) (opening timed o (sectors x)) G
unfolding opening settle
opens_by size x none =
    let gets = gets_at_first None (labels_in x) in
    let r = ready gets None Opens in
    writes_all G root.empty (λ i. true) root.empty gets r refl (opened size root.empty (moved Over r) refl) refl refl refl refl refl refl unused unused_ample
opens_by size x (some v) =
    let gets = map trusts (labels_in x) in
    let r = ready gets (record_as (root.committed v)) Opens in
    writes_all G (root.committed v) (λ i. root.trusted timed (sectors x i)) (root.committed v) gets r refl (opened size (root.committed v) (moved Over r) refl)
    (trust_is x.b₀) (trust_is x.b₁) (trust_is x.b₂) (trust_is x.b₃) (trust_is x.b₄) (trust_is x.b₅) unused unused_ample

opens_to : (size : ℕ) (x : Six) (o : math.Option Time) (c : Option Payload) → c ≡ found o → Does f (Same size) 14 (f (record { me = ready (gets_at_first c (labels_in x)) c Opens; lent = unused }) []) (opening timed o (sectors x)) G
opens_to size x o c e = subst⁻¹ (λ d. Does f (Same size) 14 (f (record { me = ready (gets_at_first d (labels_in x)) d Opens; lent = unused }) []) (opening timed o (sectors x)) G) e (opens_by size x o)

opens_all : (size : ℕ) → Does f (Same size) 21 (first recorder_code (recorder_code.opening size) unused) ((root.machine timed).opens size) G
unfolding lowest
opens_all size =
    reads_all G (λ fs. opening timed (lowest timed 6 none fs) fs) (recorder_code.opening size) unused
    (λ x. again (opens_to size x _ _ (finds_more x.b₀ (finds_more x.b₁ (finds_more x.b₂ (finds_more x.b₃ (finds_more x.b₄ (finds_more x.b₅ finds_none)))))).is))

-- CALLS

abbrev Answered : Type 0
Answered = record { reply : Reply; mem : recorded.Mem }

abbrev AfterCall : ℕ → Held Recorder → Answered → Type 0
AfterCall size h x = (recorder_code.says h.me ≡ x.reply) × Same size h x.mem

-- how the layer goes on with a reply of the machine below it
abbrev Spelled : Type 0
Spelled = record { value : record { reply : Reply; mem : Unit {0} }; below : root.Record Time }

abbrev Q : record { reply : root.Reply Time; mem : root.Record Time } → Io Spelled
Q x = through (root.machine timed) (gives (record { reply = reply_as x.reply; mem = tt })) x.mem

abbrev H : Spelled → Io Answered
H x = answer (record { reply = x.value.reply; mem = record { below = x.below; above = x.value.mem } })

was_set : (size : ℕ) (t : Time) (r : Recorder) (p : Payload) → r.current ≡ record_as (root.committed t) → r.task ≡ Sets p → (lent : Lent) → Ample lent →
    Goes f (AfterCall size) 1 (goes r lent Done) (then' (Q (record { reply = root.Done; mem = root.committed t })) H)
unfolding then' through
was_set size t r p e k lent h = Goes.ends (ap (λ j. said_by j r.current) k, (e, h))

module _ (size : ℕ) (h : Held Recorder) (m : recorded.Mem) (same : Same size h m) where
  set_to : (p : Payload) (x : Six) →
      Does f (AfterCall size) 14 (f (record { me = ready (map trusts (labels_in x)) (Some (kept p)) (Sets (kept p)); lent = h.lent }) [])
      (settle timed (root.trusted timed) (root.committed (time_of p.time)) (record { reply = root.Done; mem = root.committed (time_of p.time) }) (sectors x)) (λ y. then' (Q y) H)
  unfolding settle
  set_to p x =
      let v = time_of p.time in
      let gets = map trusts (labels_in x) in
      let r = ready gets (Some (kept p)) (Sets (kept p)) in
      writes_all (λ y. then' (Q y) H) (record { reply = root.Done; mem = root.committed v }) (λ i. root.trusted timed (sectors x i)) (root.committed v) gets r refl (was_set size v (moved Over r) (kept p) refl refl)
      (trust_is x.b₀) (trust_is x.b₁) (trust_is x.b₂) (trust_is x.b₃) (trust_is x.b₄) (trust_is x.b₅) h.lent same.1

  got : (k : root.Record Time) → reply.Is (unwrap_or (record_as k) register.none) ≡ reply_as (root.Payload (root.payload timed k))
  got root.empty = refl
  got (root.committed t) = refl

  calls : (c : Call) → Goes f (AfterCall size) 21 (first recorder_code (starts_on c h.me) h.lent) (recorded.does c m)
  unfolding does then' through
  calls (Set p) =
      (follows Q (reads_all (λ y. then' (Q y) H) (settle timed (root.trusted timed) (root.committed (time_of p.time)) (record { reply = root.Done; mem = root.committed (time_of p.time) }))
      (starts_on (Set p) h.me) h.lent (λ x. again (set_to p x)))).go
  calls Get = Goes.ends (ap (λ c. reply.Is (unwrap_or c register.none)) same.0 ∙ got m.below, same)

  -- MENDING

  abbrev Mended : Type 0
  Mended = record { whole : Bool; mem : recorded.Mem }

  abbrev W : record { whole : Bool; mem : root.Record Time } → Io Mended
  W x = answer (record { whole = x.whole; mem = record { below = x.mem; above = m.above } })

  abbrev AfterMending : Held Recorder → Mended → Type 0
  AfterMending g x = (recorder_code.whole g.me ≡ x.whole) × Same size g x.mem

  mends_to : (x : Six) →
      Does f AfterMending 14 (f (record { me = ready (map lacks (labels_in x)) h.me.current Mends; lent = h.lent }) [])
      (settle timed (root.untrusted timed) m.below (record { whole = true; mem = m.below }) (sectors x)) W
  unfolding settle
  mends_to x =
      writes_all W (record { whole = true; mem = m.below }) (λ i. root.untrusted timed (sectors x i)) m.below (map lacks (labels_in x)) (ready (map lacks (labels_in x)) h.me.current Mends) same.0
      (λ lent a. Goes.ends (refl, (same.0, a)))
      (ap not (trust_is x.b₀)) (ap not (trust_is x.b₁)) (ap not (trust_is x.b₂)) (ap not (trust_is x.b₃)) (ap not (trust_is x.b₄)) (ap not (trust_is x.b₅)) h.lent same.1

  mends : Goes f AfterMending 21 (first recorder_code (recorder_code.mending h.me) h.lent) (recorded.mends m)
  mends = (reads_all W (settle timed (root.untrusted timed) m.below (record { whole = true; mem = m.below })) (recorder_code.mending h.me) h.lent (λ x. again (mends_to x))).go

pub recorder_tied : (size : ℕ) → Tied recorder_code 21 size recorded (RecorderSame size)
recorder_tied size = record { opens = (opens_all size).go; does = λ c h m s. calls size h m s c; mends = mends size }
