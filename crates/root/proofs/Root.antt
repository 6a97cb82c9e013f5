-- The root record stands, for all labels that are lawful.
-- Assumes nothing.
use Rattle.std.proofs.Common.{◌≡◌, ℕ, zero, suc, ◌<◌, ◌≤◌, Bool, true, false, cond, not, ◌⊎◌, List, [], ◌∷◌, length, sym, refl, ap, ◌∙◌, subst, inl, inr, ⊎_elim, true≢false, arith, lit<}
use mathlib.Core.Path.{subst⁻¹}
use mathlib.Core.Option.{Option, none, some}
use Rattle.drives.specs.Drives.{smallest, zeros, blank_drive, Slot, gone, there, Drives, put, shown, written_to, AfterCut, Fair, Upto}
use Rattle.drives.specs.Machines.{DoneOrNot, without, still_gone, weak_after}
use Rattle.crash.specs.Refinement.{Does, Cuts, Few, Fallen, counted, Refines, Bounded, Refinement}
use Rattle.crash.proofs.Updates.{same?, put_elim}
use Rattle.crash.proofs.Sectors.{Sight, nowhere, sees, sight, text, shown_sight, Holds, away, held, holds_sight, holds_more, holds_write, sight_write, holds_synced, holds_cut, holds_blank, shown_sync}
use Rattle.crash.proofs.Weak.{Weak, weak_lost, weak_still, weak_gone, not_three}
use Rattle.crash.proofs.Does.{does_answer, Each, written_if, does_each, acts_write, acts_sync, Read, does_read_all}
use Rattle.crash.proofs.Fairness.{FairAnywhere, AtMost, fair_each, fair_write, fair_sync, fair_read_all, ops_answer, ops_each, ops_write, ops_sync, ops_read_all}
use Rattle.crash.proofs.Refinement.{refined_keeps}
use Rattle.root.specs.Root.{Record, empty, committed, missing, blank, has, Codec, Lawful, record_of, committed_of, is_there, record_in, committed_in, trusted, untrusted, payload, Call, Set, Get, Reply, Done, Answers, sets, gets, judge, settle, or_else, lowest, opening, does, machine, NoNewTrust, Earned, RootStands}

-- WHAT LABELS SAY

-- the label of a drive: Gone, the drive may be gone; Bare, it may have no record; P, the records that it may have
pub data May (K : Codec) (Gone Bare : Type 0) (P : Record K.V → Type 0) : Sight → Type 0 where
  lacks : Gone → May K Gone Bare P nowhere
  shows : {b : List ℕ} (r : Record K.V) → record_in K b ≡ some r → P r → May K Gone Bare P (sees b)
  bare : {b : List ℕ} → record_in K b ≡ none → Bare → May K Gone Bare P (sees b)

pub may_more : {K : Codec} {G B G' B' : Type 0} {P P' : Record K.V → Type 0} → (G → G') → (B → B') → ((r : Record K.V) → P r → P' r) → (c : Sight) → May K G B P c → May K G' B' P' c
may_more g b p c (lacks x) = lacks (g x)
may_more g b p c (shows r e x) = shows r e (p r x)
may_more g b p c (bare e x) = bare e (b x)

-- whatever a cut leaves of the six drives, their labels are such
abbrev pub Labelled : (K : Codec) (W B : ℕ → Type 0) (P : Record K.V → Type 0) → Drives → Type 0
Labelled K W B P d = Each (λ i. Holds 0 (May K (W i) (B i) P)) d

labelled_more : {K : Codec} {W B W' B' : ℕ → Type 0} {P P' : Record K.V → Type 0} {d : Drives} → ((i : ℕ) → W i → W' i) → ((i : ℕ) → B i → B' i) → ((r : Record K.V) → P r → P' r) → Labelled K W B P d → Labelled K W' B' P' d
labelled_more w b p h i l = holds_more (may_more (w i) (b i) p) (h i l)

labelled_cut : {K : Codec} {W B : ℕ → Type 0} {P : Record K.V → Type 0} {f g : Drives} → AfterCut f g → Labelled K W B P f → Labelled K W B P g
labelled_cut c h i l = holds_cut (c i) (h i l)

pub never : {A X : Type 0} {o : Option A} {a : A} → o ≡ none → o ≡ some a → X
never p q = let z : ◌≡◌ {A = ℕ} 0 1 = cc in absurd (omega arith)

pub empty_is : {V : Type 0} (r : Record V) → committed_of (some r) ≡ none → r ≡ empty
empty_is empty e = refl
empty_is (committed v) e = never e refl

pub committed_is : {V : Type 0} {v : V} (o : Option (Record V)) → committed_of o ≡ some v → o ≡ some (committed v)
committed_is none e = never refl e
committed_is (some empty) e = never refl e
committed_is (some (committed u)) e = let p : u ≡ _ = cc in ap (λ x. some (committed x)) p

module _ (K : Codec) (law : Lawful K) where
  pub missing_bare : record_in K [] ≡ none
  missing_bare = ap record_of (subst (λ (b : List ℕ). K.decode b ≡ some missing) law.missing_is (law.there missing))

  pub blank_bare : record_in K (zeros 512) ≡ none
  blank_bare = ap record_of (subst (λ (b : List ℕ). K.decode b ≡ some blank) law.blank_is (law.there blank))

  pub written : (r : Record K.V) → record_in K (K.encode (has r)) ≡ some r
  written r = ap record_of (law.there (has r))

  -- what is read of a label
  module _ {G B : Type 0} {P : Record K.V → Type 0} where
    pub may_record : {c : Sight} {r : Record K.V} → May K G B P c → record_in K (text c) ≡ some r → P r
    may_record (lacks g) e = never missing_bare e
    may_record {r = r} (shows q f p) e = let s : q ≡ r = cc in subst P s p
    may_record (bare f b) e = never f e

    shown_record : {x : Slot} {r : Record K.V} → Holds 0 (May K G B P) x → record_in K (shown x 0) ≡ some r → P r
    shown_record {x} {r} h e = may_record (holds_sight h) (subst (λ (b : List ℕ). record_in K b ≡ some r) (shown_sight 0 x) e)

    -- a drive has a record, unless it may be without
    record_or : {c : Sight} → May K G B P c → (G ⊎ B) ⊎ ((r : Record K.V) × (record_in K (text c) ≡ some r) × P r)
    record_or (lacks g) = inl (inl g)
    record_or (shows r e p) = inr (r, e, p)
    record_or (bare e b) = inl (inr b)

  -- one of any three drives is not weak, and so has a record
  pub record Shown (P : Record K.V → Type 0) (d : Drives) : Type 0 where
    pub drive : ℕ
    pub below : drive < 6
    pub what : Record K.V
    pub shows_it : record_in K (shown (d drive) 0) ≡ some what
    pub fine : P what

  pub some_record : {P : Record K.V → Type 0} {ws : List ℕ} {d : Drives} → Few ws → Labelled K (Weak ws) (Weak ws) P d → Shown P d
  some_record {P} {ws} {d} l h =
      ⊎_elim (λ a. ⊎_elim (λ b. ⊎_elim (λ c. absurd (not_three ws l 0 1 2 (lit< tt) (lit< tt) a b c)) (λ x. x) (at 2 (lit< tt))) (λ x. x) (at 1 (lit< tt))) (λ x. x) (at 0 (lit< tt))
    where
      at : (i : ℕ) → i < 6 → Weak ws i ⊎ Shown P d
      at i b =
          ⊎_elim (λ w. inl (⊎_elim (λ x. x) (λ x. x) w))
          (λ (r, e, p). inr (record { drive = i; below = b; what = r; shows_it = subst⁻¹ (λ (t : List ℕ). record_in K t ≡ some r) (shown_sight 0 (d i)) e; fine = p }))
          (record_or (holds_sight (h i b)))

  -- SETTLING the record r on the drives whose labels pass the test t

  -- Labels may be in P before, in P' all along, and are r at the end; W: the drive may be gone, B and B': it may have no record, all along and at the end.
  record Settles (W B B' : ℕ → Type 0) (P P' : Record K.V → Type 0) (t : List ℕ → Bool) (r : Record K.V) : Type 0 where
    wider : (q : Record K.V) → P q → P' q
    own : P' r
    fewer : (i : ℕ) → B' i → B i
    stays : (i : ℕ) (b : List ℕ) → t b ≡ false → May K (W i) (B i) P (sees b) → May K (W i) (B' i) (λ q. q ≡ r) (sees b)

  module _ {W B B' : ℕ → Type 0} {P P' : Record K.V → Type 0} {t : List ℕ → Bool} {r : Record K.V} (z : Settles W B B' P P' t r) where
    -- a drive before its write: it still shows what was read of it
    abbrev Before : (ℕ → List ℕ) → ℕ → Slot → Type 0
    Before f i x = Holds 0 (May K (W i) (B i) P) x × (f i ≡ shown x 0)

    -- after its write: r is shown, and whatever a cut leaves is fine
    abbrev Between : ℕ → Slot → Type 0
    Between i x = Holds 0 (May K (W i) (B i) P') x × May K (W i) (B' i) (λ q. q ≡ r) (sight 0 x)

    abbrev Along : ℕ → Slot → Type 0
    Along i = Holds 0 (May K (W i) (B i) P')

    abbrev After : ℕ → Slot → Type 0
    After i = Holds 0 (May K (W i) (B' i) (λ q. q ≡ r))

    before_along : (i : ℕ) {x : Slot} → Holds 0 (May K (W i) (B i) P) x → Along i x
    before_along i h = holds_more (may_more (λ w. w) (λ b. b) z.wider) h

    after_along : (i : ℕ) {x : Slot} → After i x → Along i x
    after_along i h = holds_more (may_more (λ w. w) (z.fewer i) (λ q e. subst⁻¹ P' e z.own)) h

    writes : (f : ℕ → List ℕ) (i : ℕ) (x : Slot) → i < 6 → Before f i x → Between i (written_if (λ j. t (f j)) 0 (λ j. K.encode (has r)) i x)
    unfolding written_to
    writes f i gone l (away (lacks w), e) = go (t (f i))
      where
        go : (c : Bool) → Between i (cond c gone gone)
        go true = (away (lacks w), lacks w)
        go false = (away (lacks w), lacks w)
    writes f i (there d) l (h, e) = go (t (f i)) (ap t (sym e))
      where
        go : (c : Bool) → t (shown (there d) 0) ≡ c → Between i (cond c (written_to 0 (K.encode (has r)) (there d)) (there d))
        go true e = (holds_write (K.encode (has r)) (shows r (written r) z.own) (before_along i h), subst⁻¹ (May K (W i) (B' i) (λ q. q ≡ r)) (sight_write 0 (K.encode (has r)) d) (shows r (written r) refl))
        go false e = (before_along i h, z.stays i _ (subst (λ (b : List ℕ). t b ≡ false) (shown_sight 0 (there d)) e) (holds_sight h))

    does_settle : {A : Type 0} {I : Drives → Type 0} (Q : A → Drives → Type 0) (a : A) → ((e : Drives) → Labelled K W B P' e → I e) → ((e : Drives) → Labelled K W B' (λ q. q ≡ r) e → Q a e) →
        {d : Drives} (f : ℕ → List ℕ) → Read 0 d f → Labelled K W B P d → Does I Q (settle K t r a f) d
    unfolding settle
    does_settle Q a stop end f read h =
        does_each {F = Before f} {G = Between} {J = Along} (acts_write (λ j. t (f j)) 0 (λ j. K.encode (has r))) stop (λ i x b. before_along i b.0) (λ i x b. b.0) (writes f)
        (λ e. does_each {F = Between} {G = After} {J = Along} acts_sync stop (λ i x b. b.0) (λ i x b. after_along i b) (λ i x l b. holds_synced x b.1) (λ e g. does_answer (stop e (λ i l. after_along i (g i l))) (end e g)))
        (λ i l. (h i l, read i l))

  -- FINDING what is committed

  -- of the drives from n on
  abbrev pub Found : ℕ → (ℕ → List ℕ) → Option K.V → Type 0
  Found n f none = (i : ℕ) → n ≤ i → i < 6 → committed_in K (f i) ≡ none
  Found n f (some v) = (i : ℕ) × (i < 6) × (committed_in K (f i) ≡ some v)

  found_more : (n : ℕ) (f : ℕ → List ℕ) → n < 6 → (x o : Option K.V) → committed_in K (f n) ≡ x → Found (suc n) f o → Found n f (or_else x o)
  found_more n f l none none e s = λ i a b. ⊎_elim (λ p. subst⁻¹ (λ m. committed_in K (f m) ≡ none) p e) (λ m. s i (omega arith) b) (same? i n)
  found_more n f l none (some v) e s = s
  found_more n f l (some v) o e s = (n, l, e)

  found_below : (f : ℕ → List ℕ) (n : ℕ) → n ≤ 6 → (o : Option K.V) → Found n f o → Found 0 f (lowest K n o f)
  unfolding lowest
  found_below f zero l o s = s
  found_below f (suc n) l o s = found_below f n (omega arith) (or_else (committed_in K (f n)) o) (found_more n f (omega arith) (committed_in K (f n)) o refl s)

  pub found : (f : ℕ → List ℕ) → Found 0 f (lowest K 6 none f)
  found f = found_below f 6 (omega arith) none (λ i a b. absurd (omega arith))

  -- THE INVARIANT

  -- Off: every drive that is not weak has a record, whose payload is possible. Or nothing was ever committed: then drives may be blank too, as long as no label says otherwise.
  pub data Off (P : K.V → Type 0) (ws : List ℕ) (d : Drives) : Type 0 where
    settled : Labelled K (Weak ws) (Weak ws) (λ r. P (payload K r)) d → Off P ws d
    fresh : P K.first → Labelled K (Weak ws) (λ i. Unit {0}) (λ r. r ≡ empty) d → Off P ws d

  -- On: every drive that is not weak has the record that is in memory.
  pub data On (n : ℕ) (ws : List ℕ) (m : Record K.V) (d : Drives) : K.V → Type 0 where
    agreed : Labelled K (Weak ws) (Weak ws) (λ r. r ≡ m) d → On n ws m d (payload K m)

  -- whatever labels are left by a cut
  cut_settled : {P' : K.V → Type 0} {Q : Record K.V → Type 0} {ws : List ℕ} → ((r : Record K.V) → Q r → P' (payload K r)) → (f : Drives) → Labelled K (Weak ws) (Weak ws) Q f → Cuts (Off P' ws) f
  cut_settled up f h g c = settled (labelled_more (λ i w. w) (λ i w. w) up (labelled_cut c h))

  -- three tests: every label, those with a record, those without
  all_settle : {W B B' : ℕ → Type 0} {P P' : Record K.V → Type 0} {r : Record K.V} → ((q : Record K.V) → P q → P' q) → P' r → ((i : ℕ) → B' i → B i) → Settles W B B' P P' (λ b. true) r
  all_settle wider own fewer = record { wider = wider; own = own; fewer = fewer; stays = λ i b e. absurd (true≢false e) }

  trusted_settle : {W B : ℕ → Type 0} {P P' : Record K.V → Type 0} {r : Record K.V} → ((q : Record K.V) → P q → P' q) → P' r → Settles W B B P P' (trusted K) r
  trusted_settle {W} {B} {P} {r = r} wider own = record { wider = wider; own = own; fewer = λ i b. b; stays = stays }
    where
      stays : (i : ℕ) (b : List ℕ) → trusted K b ≡ false → May K (W i) (B i) P (sees b) → May K (W i) (B i) (λ q. q ≡ r) (sees b)
      stays i b e (shows q f p) = absurd (true≢false (subst (λ o. is_there o ≡ false) f e))
      stays i b e (bare f x) = bare f x

  untrusted_settle : {W B : ℕ → Type 0} {r : Record K.V} → Settles W B (λ i. ⊥) (λ q. q ≡ r) (λ q. q ≡ r) (untrusted K) r
  untrusted_settle {W} {B} {r} = record { wider = λ q p. p; own = refl; fewer = λ i x. absurd x; stays = stays }
    where
      stays : (i : ℕ) (b : List ℕ) → untrusted K b ≡ false → May K (W i) (B i) (λ q. q ≡ r) (sees b) → May K (W i) ⊥ (λ q. q ≡ r) (sees b)
      stays i b e (shows q f p) = shows q f p
      stays i b e (bare f x) = absurd (true≢false (subst (λ o. not (is_there o) ≡ false) f e))

  -- OPENING

  module _ (size : ℕ) where
    abbrev Opened : (K.V → Type 0) → List ℕ → Record K.V → Drives → Type 0
    Opened P ws m e = (s : K.V) × P s × On 0 ws m e s

    -- Where drives agree that nothing is committed, one of them says so; else what is found is possible.
    opens_settled : {P : K.V → Type 0} {ws : List ℕ} {d : Drives} → Few ws → Labelled K (Weak ws) (Weak ws) (λ r. P (payload K r)) d →
        Does (Cuts (Off (Fallen (judge K size) P) ws)) (Opened P ws) ((machine K).opens size) d
    unfolding opening
    opens_settled {P} {ws} {d} l h = does_read_all 0 (λ f read. go f read (lowest K 6 none f) (found f))
      where
        stop : (e : Drives) → Labelled K (Weak ws) (Weak ws) (λ r. P (payload K r)) e → Cuts (Off (Fallen (judge K size) P) ws) e
        stop = cut_settled (λ r p. (payload K r, p, refl))

        go : (f : ℕ → List ℕ) → Read 0 d f → (o : Option K.V) → Found 0 f o → Does (Cuts (Off (Fallen (judge K size) P) ws)) (Opened P ws) (opening K o f) d
        go f read none nothing =
            let x = some_record l h in
            let e : committed_of (some x.what) ≡ none = ap committed_of (sym x.shows_it) ∙ subst (λ (b : List ℕ). committed_in K b ≡ none) (read x.drive x.below) (nothing x.drive (omega arith) x.below) in
            let p : P K.first = subst (λ r. P (payload K r)) (empty_is x.what e) x.fine in
            does_settle (all_settle (λ q p. p) p (λ i w. w)) (Opened P ws) empty stop (λ e g. (K.first, p, agreed g)) f read h
        go f read (some v) (i, b, e) =
            let p : P v = shown_record (h i b) (committed_is _ (subst (λ (b : List ℕ). committed_in K b ≡ some v) (read i b) e)) in
            does_settle (trusted_settle (λ q p. p) p) (Opened P ws) (committed v) stop (λ e g. (v, p, agreed g)) f read h

    -- Where nothing was ever committed, nothing is found.
    opens_fresh : {P : K.V → Type 0} {ws : List ℕ} {d : Drives} → P K.first → Labelled K (Weak ws) (λ i. Unit {0}) (λ r. r ≡ empty) d →
        Does (Cuts (Off (Fallen (judge K size) P) ws)) (Opened P ws) ((machine K).opens size) d
    unfolding opening
    opens_fresh {P} {ws} {d} p h = does_read_all 0 (λ f read. go f read (lowest K 6 none f) (found f))
      where
        go : (f : ℕ → List ℕ) → Read 0 d f → (o : Option K.V) → Found 0 f o → Does (Cuts (Off (Fallen (judge K size) P) ws)) (Opened P ws) (opening K o f) d
        go f read none nothing =
            does_settle (all_settle (λ q p. p) refl (λ i w. tt)) (Opened P ws) empty (λ e g x c. fresh (K.first, p, refl) (labelled_cut c g)) (λ e g. (K.first, p, agreed g)) f read h
        go f read (some v) (i, b, e) =
            let q : committed v ≡ empty = shown_record (h i b) (committed_is _ (subst (λ (b : List ℕ). committed_in K b ≡ some v) (read i b) e)) in
            let z : ◌≡◌ {A = ℕ} 0 1 = cc in
            absurd (omega arith)

    opens : {P : K.V → Type 0} {ws : List ℕ} {d : Drives} → Few ws → Off P ws d → Does (Cuts (Off (Fallen (judge K size) P) ws)) (Opened P ws) ((machine K).opens size) d
    opens l (settled h) = opens_settled l h
    opens l (fresh p h) = opens_fresh p h

    -- CALLS

    calls : (c : Call K.V) {n : ℕ} {ws : List ℕ} {m : Record K.V} {d : Drives} {s : K.V} → On n ws m d s →
        Does (Cuts (Off ((judge K size).Cut c s) ws)) (λ x f. (t : K.V) × Answers c s x.reply t × On n ws x.mem f t) (does K c m) d
    unfolding does
    calls (Set v) {n = n} {ws} {m} (agreed h) =
        does_read_all 0 (λ f read.
        does_settle (trusted_settle (λ q e. inl e) (inr refl)) (λ x f. (t : K.V) × Answers (Set v) (payload K m) x.reply t × On n ws x.mem f t) (record { reply = Done; mem = committed v })
        (cut_settled either) (λ e g. (v, sets v (payload K m), agreed g)) f read h)
      where
        either : (q : Record K.V) → (q ≡ m) ⊎ (q ≡ committed v) → (judge K size).Cut (Set v) (payload K m) (payload K q)
        either q (inl e) = DoneOrNot.undone (ap (payload K) e)
        either q (inr e) = DoneOrNot.done (sets v (payload K m)) (ap (payload K) e)
    calls Get {m = m} {d = d} (agreed h) = does_answer (cut_settled (λ q e. DoneOrNot.undone (ap (payload K) e)) d h) (payload K m, gets (payload K m), agreed h)

    -- MENDING

    mends : {n : ℕ} {ws : List ℕ} {m : Record K.V} {d : Drives} {s : K.V} → On n ws m d s →
        Does (Cuts (Off (λ u. u ≡ s) ws)) (λ x f. (x.whole ≡ false → suc n < size) × On (counted x.whole n) (weak_after x.whole f ws) x.mem f s) ((machine K).mends m) d
    mends {n = n} {ws} {m} (agreed h) =
        does_read_all 0 (λ f read.
        does_settle untrusted_settle (λ x f. (x.whole ≡ false → suc n < size) × On (counted x.whole n) (weak_after x.whole f ws) x.mem f (payload K m)) (record { whole = true; mem = m })
        (cut_settled (λ q e. ap (payload K) e)) (λ e g. (λ p. absurd (true≢false p), agreed (λ i l. gone_only e i (e i) refl (g i l)))) f read h)
      where
        -- once every drive that is there has the record, only those that are gone are weak
        gone_only : (e : Drives) (i : ℕ) (x : Slot) → e i ≡ x → Holds 0 (May K (Weak ws i) ⊥ (λ q. q ≡ m)) x → Holds 0 (May K (Weak (still_gone e ws) i) (Weak (still_gone e ws) i) (λ q. q ≡ m)) x
        gone_only e i gone p (away (lacks w)) = away (lacks (weak_gone i e ws p w))
        gone_only e i (there d) p (held h k) = held (seen h) (λ b n. seen (k b n))
          where
            seen : {b : List ℕ} → May K (Weak ws i) ⊥ (λ q. q ≡ m) (sees b) → May K (Weak (still_gone e ws) i) (Weak (still_gone e ws) i) (λ q. q ≡ m) (sees b)
            seen (shows q f p) = shows q f p
            seen (bare f x) = absurd x

    -- LOSSES AND REPLACEMENTS

    lost : {B B' : ℕ → Type 0} {P : Record K.V → Type 0} {ws : List ℕ} {d : Drives} (i : ℕ) → ((j : ℕ) → B j → B' j) → Labelled K (Weak ws) B P d → Labelled K (Weak (i ∷ without i ws)) B' P (put i gone d)
    lost {B' = B'} {P} {ws} {d} i more h j l =
        put_elim (Holds 0 (May K (Weak (i ∷ without i ws) j) (B' j) P)) i j gone d (λ e. away (lacks (subst⁻¹ (Weak (i ∷ without i ws)) e (weak_lost i ws))))
        (λ n. holds_more (may_more (weak_still i ws) (more j) (λ q p. p)) (h j l))

    replaced : {B : ℕ → Type 0} {P : Record K.V → Type 0} {ws : List ℕ} {d : Drives} (i : ℕ) → ((j : ℕ) → Weak ws j → B j) → d i ≡ gone → Labelled K (Weak ws) B P d → Labelled K (Weak ws) B P (put i (there blank_drive) d)
    replaced {B} {P} {ws} {d} i more g h j l =
        put_elim (Holds 0 (May K (Weak ws j) (B j) P)) i j (there blank_drive) d (λ e. holds_blank (bare blank_bare (more j (was (subst (Holds 0 (May K (Weak ws j) (B j) P)) (ap d e ∙ g) (h j l)))))) (λ n. h j l)
      where
        was : Holds 0 (May K (Weak ws j) (B j) P) gone → Weak ws j
        was (away (lacks w)) = w

    loses_off : {P : K.V → Type 0} {ws : List ℕ} {d : Drives} (i : ℕ) → Off P ws d → Off P (i ∷ without i ws) (put i gone d)
    loses_off {ws = ws} i (settled h) = settled (lost i (λ j. weak_still i ws) h)
    loses_off i (fresh p h) = fresh p (lost i (λ j x. x) h)

    loses_on : {n : ℕ} {ws : List ℕ} {m : Record K.V} {d : Drives} {s : K.V} (i : ℕ) → On n ws m d s → On 0 (i ∷ without i ws) m (put i gone d) s
    loses_on {ws = ws} i (agreed h) = agreed (lost i (λ j. weak_still i ws) h)

    replaces_off : {P : K.V → Type 0} {ws : List ℕ} {d : Drives} (i : ℕ) → d i ≡ gone → Off P ws d → Off P ws (put i (there blank_drive) d)
    replaces_off i g (settled h) = settled (replaced i (λ j w. w) g h)
    replaces_off i g (fresh p h) = fresh p (replaced i (λ j w. tt) g h)

    replaces_on : {n : ℕ} {ws : List ℕ} {m : Record K.V} {d : Drives} {s : K.V} (i : ℕ) → d i ≡ gone → On n ws m d s → On 0 ws m (put i (there blank_drive) d) s
    replaces_on i g (agreed h) = agreed (replaced i (λ j w. w) g h)

    some_state : {P : K.V → Type 0} {ws : List ℕ} {d : Drives} → Few ws → Off P ws d → (s : K.V) × P s
    some_state l (settled h) = let x = some_record l h in (payload K x.what, x.fine)
    some_state l (fresh p h) = (K.first, p)

    rests : {n : ℕ} {ws : List ℕ} {m : Record K.V} {d : Drives} {s : K.V} → On n ws m d s → Cuts (Off (λ u. u ≡ s) ws) d
    rests {d = d} (agreed h) = cut_settled (λ q e. ap (payload K) e) d h

    pub root_refines : Refines (judge K size) (machine K) size Off (λ s n ws m d. On n ws m d s)
    root_refines =
        record {
          begins = fresh refl (λ i l. holds_blank (bare blank_bare tt));
          some_state = some_state;
          opens = opens;
          calls = λ c l o. calls c o;
          mends = λ l o. mends o;
          rests = λ l o. rests o;
          loses_off = λ i b h. loses_off i h;
          loses_on = λ i b h. loses_on i h;
          replaces_off = λ i b g h. replaces_off i g h;
          replaces_on = λ i b g h. replaces_on i g h;
        }

    -- BOUNDS: whatever the labels, all that is asked is fair

    record_whole : (r : Record K.V) → length (K.encode (has r)) ≡ 512
    record_whole r = ⊎_elim (λ e. let z : ◌≡◌ {A = ℕ} 0 1 = cc in absurd (omega arith)) (λ e. e) (law.whole (has r))

    fair_settle : {A : Type 0} → 0 < size → (t : List ℕ → Bool) (r : Record K.V) (a : A) (f : ℕ → List ℕ) → FairAnywhere size (settle K t r a f)
    unfolding settle
    fair_settle l t r a f = fair_each 6 (fair_write (λ i. t (f i)) (λ i. K.encode (has r)) l (λ i b. record_whole r) (λ i b. law.bytes (has r))) (fair_each 6 fair_sync (λ d. Fair.ends a d))

    fair_opening : 0 < size → (o : Option K.V) (f : ℕ → List ℕ) → FairAnywhere size (opening K o f)
    unfolding opening
    fair_opening l none f = fair_settle l _ _ _ f
    fair_opening l (some v) f = fair_settle l _ _ _ f

    fair_call : 0 < size → (c : Call K.V) (m : Record K.V) → FairAnywhere size (does K c m)
    unfolding does
    fair_call l (Set v) m = fair_read_all l (fair_settle l _ _ _)
    fair_call l Get m = λ d. Fair.ends _ d

    ops_settle : {A : Type 0} (t : List ℕ → Bool) (r : Record K.V) (a : A) (f : ℕ → List ℕ) → AtMost 12 (settle K t r a f)
    unfolding settle
    ops_settle t r a f = ops_each 1 (ops_write (λ i. t (f i)) 0 (λ i. K.encode (has r))) (ops_each 1 ops_sync (ops_answer a) 6) 6

    mending_short : (m : Record K.V) → AtMost 18 ((machine K).mends m)
    mending_short m = ops_read_all 0 (ops_settle _ _ _)

    pub root_bounded : smallest ≤ size → Bounded (judge K size) (machine K) size Off (λ s n ws m d. On n ws m d s)
    root_bounded lo =
        let l : 0 < size = omega arith in
        record {
          opening = λ {d = d} h. fair_read_all l (λ f. fair_opening l _ f) d;
          calling = λ c {m = m} {d = d} h. fair_call l c m d;
          mending = λ {m = m} {d = d} h. (fair_read_all l (fair_settle l _ _ _) d, omega (arith, (mending_short m).asks d));
        }

  -- TRUST IS EARNED

  -- where only trusted drives are written to, no other comes to be trusted
  settle_earns : {A : Type 0} (r : Record K.V) (a : A) (f : ℕ → List ℕ) (d : Drives) → Read 0 d f → Does (NoNewTrust K d) (λ x e. Unit {0}) (settle K (trusted K) r a f) d
  unfolding settle
  settle_earns r a f d read =
      does_each {F = Same} {G = Same} {J = Same} (acts_write (λ j. trusted K (f j)) 0 (λ j. K.encode (has r))) (λ e h. h) (λ i x h. h) (λ i x h. h) writes
      (λ e. does_each {F = Same} {G = Same} {J = Same} acts_sync (λ e h. h) (λ i x h. h) (λ i x h. h) (λ i x l h u. shown_sync 0 x ∙ h u) (λ e h. does_answer h tt))
      (λ i l u. refl)
    where
      Same : ℕ → Slot → Type 0
      Same i x = untrusted K (shown (d i) 0) ≡ true → shown x 0 ≡ shown (d i) 0

      writes : (i : ℕ) (x : Slot) → i < 6 → Same i x → Same i (written_if (λ j. trusted K (f j)) 0 (λ j. K.encode (has r)) i x)
      writes i x l h u = go (trusted K (f i)) (ap (trusted K) (read i l))
        where
          go : (c : Bool) → c ≡ trusted K (shown (d i) 0) → shown (cond c (written_to 0 (K.encode (has r)) x) x) 0 ≡ shown (d i) 0
          go true e = absurd (true≢false (sym (subst⁻¹ (λ b. not b ≡ true) e u)))
          go false e = h u

  pub root_earned : Earned K
  unfolding does opening
  root_earned = (calls_earn, λ size i v d f b e u. (does_read_all 0 (λ g read. go i v d b e g read (lowest K 6 none g) (found g))).always u)
    where
      calls_earn : (c : Call K.V) (m : Record K.V) (d f : Drives) → Upto (does K c m) d f → NoNewTrust K d f
      calls_earn (Set v) m d f u = (does_read_all 0 (λ g read. settle_earns _ _ g d read)).always u
      calls_earn Get m d f Upto.here = λ i l h. refl

      go : (i : ℕ) (v : K.V) (d : Drives) → i < 6 → committed_in K (shown (d i) 0) ≡ some v → (g : ℕ → List ℕ) → Read 0 d g → (o : Option K.V) → Found 0 g o → Does (NoNewTrust K d) (λ x e. Unit {0}) (opening K o g) d
      go i v d b e g read none nothing = never (nothing i (omega arith) b) (ap (committed_in K) (read i b) ∙ e)
      go i v d b e g read (some u) found = settle_earns _ _ g d read

abbrev root_refinement : (K : Codec) → Lawful K → Refinement
root_refinement K law =
    record {
      C = Call K.V;
      R = Reply K.V;
      j = judge K;
      e = machine K;
      Off = λ size. Off K law;
      On = λ size s n ws m d. On K law n ws m d s;
      refines = λ size lo hi. root_refines K law size;
      bounded = λ size lo hi. root_bounded K law size lo;
    }

pub root_stands : (K : Codec) → Lawful K → RootStands K
root_stands K law = let (keeps, within) = refined_keeps (root_refinement K law) in (keeps, within, root_earned K law)
