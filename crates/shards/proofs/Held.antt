-- What drives gave: how much it is, that it is among the pieces of the stripe, and what it decodes to.
-- Assumes nothing.
use Rattle.std.proofs.Common.{◌≡◌, ℕ, zero, suc, ◌+◌, ◌-◌, ◌<◌, ◌≤◌, cond, T, ◌≢◌, ◌⊎◌, List, [], ◌∷◌, length, sym, refl, ap, ◌∙◌, subst, inl, inr, arith}
use mathlib.Core.Option.{Option, none, some}
use Rattle.crash.specs.Loops.{count}
use Rattle.root.specs.Root.{is_there}
use Rattle.field.specs.Code.{lengths, At, here, there, Among, no_more, one_more}
use Rattle.field.specs.Field.{Row, dot, map4}
use Rattle.field.specs.Stripe.{Held, held, four_held, inverse, key_of, decoded, piece_at}
use Rattle.field.proofs.Bytes.{dot_lin}
use Rattle.field.proofs.Pieces.{Good, bytes, lengths_more, lengths_none}
use Rattle.shards.specs.Shards.{before, held_below, held_of}

pub held_long : (g : ℕ → Option (List ℕ)) (n : ℕ) (hs : List Held) → length (held_below g n hs) ≡ count (λ i. is_there (g i)) n + length hs
unfolding held_below before count
held_long g zero hs = omega arith
held_long g (suc n) hs = held_long g n (before n (g n) hs) ∙ more (g n)
  where
    more : (o : Option (List ℕ)) → count (λ i. is_there (g i)) n + length (before n o hs) ≡ cond (is_there o) (suc (count (λ i. is_there (g i)) n)) (count (λ i. is_there (g i)) n) + length hs
    more none = refl
    more (some x) = omega arith

-- WHERE FOUR ARE KNOWN

-- drives that gave nothing add nothing
held_skip : (g : ℕ → Option (List ℕ)) (m d n : ℕ) (hs : List Held) → n ≡ m + d → ((i : ℕ) → m ≤ i → i < n → g i ≡ none) → held_below g n hs ≡ held_below g m hs
unfolding held_below before
held_skip g m zero n hs on e = let same : n ≡ m = omega arith in ap (λ k. held_below g k hs) same
held_skip g m (suc d) n hs on e =
    let top : n ≡ suc (m + d) = omega arith in
    ap (λ k. held_below g k hs) top ∙ ap (λ o. held_below g (m + d) (before (m + d) o hs)) (e (m + d) (omega arith) (omega arith)) ∙ held_skip g m d (m + d) hs refl (λ i l h. e i l (omega arith))

-- the highest of the drives below n that gave something
held_next : (g : ℕ → Option (List ℕ)) (p n : ℕ) (x : List ℕ) (hs : List Held) → p < n → g p ≡ some x → ((i : ℕ) → p < i → i < n → g i ≡ none) → held_below g n hs ≡ held_below g p (held p x ∷ hs)
unfolding held_below before
held_next g p n x hs l is e = held_skip g (suc p) (n - suc p) n hs (omega arith) e ∙ ap (λ o. held_below g p (before p o hs)) is

-- where just p, q, r and s gave something: for code that takes four by their numbers
pub held_four : (g : ℕ → Option (List ℕ)) (p q r s : ℕ) (w x y z : List ℕ) → p < q → q < r → r < s → s < 6 → g p ≡ some w → g q ≡ some x → g r ≡ some y → g s ≡ some z →
    ((i : ℕ) → i < 6 → i ≢ p → i ≢ q → i ≢ r → i ≢ s → g i ≡ none) → held_of g ≡ four_held p q r s w x y z
unfolding held_below
held_four g p q r s w x y z pq qr rs s6 gp gq gr gs e =
    held_next g s 6 z [] s6 gs (λ i a b. e i b (omega arith) (omega arith) (omega arith) (omega arith))
    ∙ held_next g r s y (held s z ∷ []) rs gr (λ i a b. e i (omega arith) (omega arith) (omega arith) (omega arith) (omega arith))
    ∙ held_next g q r x (held r y ∷ held s z ∷ []) qr gq (λ i a b. e i (omega arith) (omega arith) (omega arith) (omega arith) (omega arith))
    ∙ held_next g p q w (held q x ∷ held r y ∷ held s z ∷ []) pq gp (λ i a b. e i (omega arith) (omega arith) (omega arith) (omega arith) (omega arith))
    ∙ held_skip g 0 p p (held p w ∷ held q x ∷ held r y ∷ held s z ∷ []) (omega arith) (λ i a b. e i (omega arith) (omega arith) (omega arith) (omega arith) (omega arith))

-- AMONG THE PIECES

at_piece : (all : List (List ℕ)) (p : ℕ) → p < length all → At all p (piece_at all p)
at_piece [] p h = absurd (omega arith)
at_piece (x ∷ xs) zero h = here
at_piece (x ∷ xs) (suc p) h = there (at_piece xs p (omega arith))

sooner : (all : List (List ℕ)) (m n : ℕ) (hs : List Held) → m ≤ n → Among all n hs → Among all m hs
sooner all m n [] le no_more = no_more
sooner all m n (h ∷ hs) le (one_more l u r) = one_more (omega arith) u r

pub held_among : (all : List (List ℕ)) (g : ℕ → Option (List ℕ)) (n : ℕ) (hs : List Held) → n ≤ length all →
    ((i : ℕ) → i < n → (g i ≡ none) ⊎ (g i ≡ some (piece_at all i))) → Among all n hs → Among all 0 (held_below g n hs)
unfolding held_below before
held_among all g zero hs le each m = m
held_among all g (suc n) hs le each m = held_among all g n (before n (g n) hs) (omega arith) (λ i h. each i (omega arith)) (more (each n (omega arith)))
  where
    more : (g n ≡ none) ⊎ (g n ≡ some (piece_at all n)) → Among all n (before n (g n) hs)
    more (inl e) = subst (λ o. Among all n (before n o hs)) (sym e) (sooner all n (suc n) hs (omega arith) m)
    more (inr e) = subst (λ o. Among all n (before n o hs)) (sym e) (one_more (omega arith) (at_piece all n (omega arith)) m)

-- BYTES

abbrev pub EachGood : ℕ → List Held → Type 0
EachGood n [] = Unit {0}
EachGood n (h ∷ hs) = Good n h.bytes × EachGood n hs

pub held_good : (m : ℕ) (g : ℕ → Option (List ℕ)) (n : ℕ) (hs : List Held) → ((i : ℕ) (x : List ℕ) → i < n → g i ≡ some x → Good m x) → EachGood m hs → EachGood m (held_below g n hs)
unfolding held_below before
held_good m g zero hs each e = e
held_good m g (suc n) hs each e = held_good m g n (before n (g n) hs) (λ i x h. each i x (omega arith)) (more (g n) refl)
  where
    more : (o : Option (List ℕ)) → g n ≡ o → EachGood m (before n o hs)
    more none p = e
    more (some x) p = (each n x (omega arith) p, e)

-- any four pieces of n bytes decode to four of n bytes
pub decoded_good : (n : ℕ) (hs : List Held) → length hs ≡ 4 → EachGood n hs → (length (decoded hs) ≡ 4) × T (lengths n (decoded hs))
unfolding decoded
decoded_good n [] e g = absurd (omega arith)
decoded_good n (x ∷ []) e g = absurd (omega arith)
decoded_good n (x ∷ y ∷ []) e g = absurd (omega arith)
decoded_good n (x ∷ y ∷ z ∷ []) e g = absurd (omega arith)
decoded_good n (x ∷ y ∷ z ∷ w ∷ []) e g =
    let m = inverse (key_of x.place y.place z.place w.place) in
    let line : (r : Row) → Good n (map4 (dot r) x.bytes y.bytes z.bytes w.bytes) = λ r. bytes (dot r) (dot_lin r) n x.bytes y.bytes z.bytes w.bytes g.0 g.1.0 g.1.1.0 g.1.1.1.0 in
    (refl, lengths_more n _ _ (line m.w) (lengths_more n _ _ (line m.x) (lengths_more n _ _ (line m.y) (lengths_more n _ _ (line m.z) (lengths_none n)))))
decoded_good n (x ∷ y ∷ z ∷ w ∷ v ∷ vs) e g = absurd (omega arith)
