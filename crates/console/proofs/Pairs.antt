-- Bytes and their pairs of digits, one more at a time.
-- Assumes nothing.
use Rattle.std.proofs.Common.{◌≡◌, ℕ, zero, suc, ◌+◌, ◌*◌, ◌/◌, ◌%◌, ◌<◌, ◌≤◌, List, [], ◌∷◌, ◌++◌, length, get_or, take, drop, set, sym, refl, ap, ◌∙◌, append_assoc, add-one, arith, length-take, drop-cons}
use lib.Seq.{set_at}
use Rattle.std.proofs.lemmas.List.{take_more, get_or-take, get_or-drop, drop-drop}
use Rattle.std.specs.Simd.{first_chunks}
use Rattle.std.proofs.lemmas.List.FromFn.{get_or-map-range_with_len, length-map-range_with_len}
use Rattle.console.specs.Hex.{digit_value, byte_at, unhexed, digit, hexed}

hexed_push : (xs : List ℕ) (b : ℕ) → hexed (xs ++ b ∷ []) ≡ hexed xs ++ digit (b / 16) ∷ digit (b % 16) ∷ []
unfolding hexed
hexed_push [] b = refl
hexed_push (x ∷ xs) b = ap (λ l. digit (x / 16) ∷ digit (x % 16) ∷ l) (hexed_push xs b)

pub hexed_more : (xs : List ℕ) (i : ℕ) → i < length xs → hexed (take (i + 1) xs) ≡ hexed (take i xs) ++ digit (get_or xs i 0 / 16) ∷ digit (get_or xs i 0 % 16) ∷ []
hexed_more xs i h = ap hexed (take_more xs i 0 h) ∙ hexed_push (take i xs) (get_or xs i 0)

-- one more byte over what was there
pub laid_more : (ds before : List ℕ) (i : ℕ) → i < length before → i < length ds / 2 →
    set (take i (unhexed ds) ++ drop i before) i (byte_at ds i) ≡ take (i + 1) (unhexed ds) ++ drop (i + 1) before
laid_more ds before i h k =
    let u = unhexed ds in
    let n : length u ≡ length ds / 2 = length-map-range_with_len (byte_at ds) 0 (length ds / 2) in
    let a : take (i + 1) u ≡ take i u ++ (get_or u i 0 ∷ []) = take_more u i 0 (omega arith) in
    let g : get_or u i 0 ≡ byte_at ds i = get_or-map-range_with_len (byte_at ds) 0 (length ds / 2) i i 0 k (omega arith) in
    let d : drop i before ≡ get_or before i 0 ∷ drop (i + 1) before = rw add-one (drop-cons before i 0 h) in
    let t : length (take i u) ≡ i = simp length-take (omega arith) in
    let s = set_at (take i u) (get_or before i 0) (drop (i + 1) before) (byte_at ds i) i t in
    rw (d, a, g) (s ∙ sym (append_assoc (take i u) (byte_at ds i ∷ []) (drop (i + 1) before)))

pair_at : (k i : ℕ) (ds : List ℕ) → i < k → get_or (first_chunks 2 k ds) i [] ≡ take 2 (drop (2 * i) ds)
pair_at zero i ds h = absurd (omega arith)
pair_at (suc k) zero ds h = refl
pair_at (suc k) (suc i) ds h =
    let e : 2 + 2 * i ≡ 2 * suc i = omega arith in
    pair_at k i (drop 2 ds) (omega arith) ∙ ap (take 2) (drop-drop (2 * i) 2 ds ∙ ap (λ n. drop n ds) e)

-- a pair of digits stands for its byte
pub byte_of_pair : (ds : List ℕ) (n i : ℕ) → i < n → n ≤ length ds / 2 →
    let pair = get_or (take n (first_chunks 2 (length ds / 2) ds)) i [] in
    16 * digit_value (get_or pair 0 0) + digit_value (get_or pair 1 0) ≡ byte_at ds i
byte_of_pair ds n i h k =
    let p : get_or (take n (first_chunks 2 (length ds / 2) ds)) i [] ≡ take 2 (drop (2 * i) ds) =
    get_or-take n (first_chunks 2 (length ds / 2) ds) i [] h ∙ pair_at (length ds / 2) i ds (omega arith)
    in
    let a : get_or (take 2 (drop (2 * i) ds)) 0 0 ≡ get_or ds (2 * i) 0 = get_or-take 2 (drop (2 * i) ds) 0 0 (omega arith) ∙ (get_or-drop (2 * i) ds 0 0 ∙ ap (λ m. get_or ds m 0) (omega arith)) in
    let b : get_or (take 2 (drop (2 * i) ds)) 1 0 ≡ get_or ds (2 * i + 1) 0 = get_or-take 2 (drop (2 * i) ds) 1 0 (omega arith) ∙ get_or-drop (2 * i) ds 1 0 in
    rw (p, a, b)
