-- The coding of rows by bytes is lawful.
-- Assumes nothing.
use Rattle.std.proofs.Common.{◌≡◌, ℕ, zero, suc, ◌+◌, ◌-◌, ◌*◌, ◌<◌, ◌≤◌, Bool, true, false, T, eqb, ltb, List, [], ◌∷◌, ◌++◌, length, take, drop, replicate, sym, refl, ap, ◌∙◌, arith, eqb→eq, length-drop, take-add}
use mathlib.Core.Option.{Option, some}
use Rattle.std.proofs.lemmas.List.{append-nil, length-take-le, take_all, drop-drop, take-replicate, drop-replicate}
use Rattle.drives.specs.Drives.{zeros, all_bytes}
use Rattle.crash.specs.RefinementBy.{IsSector}
use Rattle.field.specs.Code.{lengths, Among, no_more}
use Rattle.field.specs.Stripe.{encoded, decoded, piece_at}
use Rattle.field.proofs.Pieces.{Good, and_left, and_right, and_both, lengths_more, lengths_none, any_four, rebuilds_same, zeros_stay}
use Rattle.stripes.specs.Coding.{OfFour, Shards, LawfulCoding}
use Rattle.shards.specs.Shards.{is_row, Row, zero_row, when_else, row_of, data_piece, data_pieces, in_one, up_to, held_of, shard, join, fill, bytes}
use Rattle.shards.proofs.Sectors.{good_sector, sector_good, good_at}
use Rattle.shards.proofs.Held.{held_long, held_among, held_good, decoded_good}

-- ROWS

when_true : {A : Type 0} (t : Bool) (f : T t → A) (a : A) (h : T t) → when_else t f a ≡ f h
when_true true f a h = refl
when_true false f a h = absurd h

pub row_of_lem : (b : Row) → row_of b.bytes ≡ b
unfolding row_of
row_of_lem b = when_true (is_row b.bytes) (λ h. record { bytes = b.bytes; row_fits = h }) zero_row b.row_fits

pub row_long : (b : Row) → length b.bytes ≡ 16384
row_long b = eqb→eq (length b.bytes) 16384 (and_left (eqb (length b.bytes) 16384) (all_bytes b.bytes) b.row_fits)

pub row_bytes : (b : Row) → T (all_bytes b.bytes)
row_bytes b = and_right (eqb (length b.bytes) 16384) (all_bytes b.bytes) b.row_fits

-- PIECES

bytes_take : (n : ℕ) (x : List ℕ) → T (all_bytes x) → T (all_bytes (take n x))
unfolding all_bytes
bytes_take zero x t = tt
bytes_take (suc n) [] t = tt
bytes_take (suc n) (x ∷ xs) t = and_both (ltb x 256) (all_bytes (take n xs)) (and_left (ltb x 256) (all_bytes xs) t) (bytes_take n xs (and_right (ltb x 256) (all_bytes xs) t))

bytes_drop : (n : ℕ) (x : List ℕ) → T (all_bytes x) → T (all_bytes (drop n x))
unfolding all_bytes
bytes_drop zero x t = t
bytes_drop (suc n) [] t = tt
bytes_drop (suc n) (x ∷ xs) t = bytes_drop n xs (and_right (ltb x 256) (all_bytes xs) t)

part_good : (b : List ℕ) (s n : ℕ) → s + n ≤ length b → T (all_bytes b) → Good n (take n (drop s b))
part_good b s n le t = sector_good n (take n (drop s b)) (length-take-le n (drop s b) (omega (arith, length-drop s b))) (bytes_take n (drop s b) (bytes_drop s b t))

piece_good : (b : Row) (k j : ℕ) → k < 8 → j < 4 → Good 512 (data_piece b.bytes k j)
piece_good b k j hk hj = part_good b.bytes (2048 * k + 512 * j) 512 (omega (arith, row_long b)) (row_bytes b)

pieces_four : (b : List ℕ) (k : ℕ) → length (data_pieces b k) ≡ 4
unfolding data_pieces
pieces_four b k = refl

pieces_good : (b : Row) (k : ℕ) → k < 8 → T (lengths 512 (data_pieces b.bytes k))
unfolding data_pieces
pieces_good b k h =
    lengths_more 512 _ _ (piece_good b k 0 h (omega arith)) (lengths_more 512 _ _ (piece_good b k 1 h (omega arith))
    (lengths_more 512 _ _ (piece_good b k 2 h (omega arith)) (lengths_more 512 _ _ (piece_good b k 3 h (omega arith)) (lengths_none 512))))

-- A ROW IS ITS STRIPES, ONE AFTER THE OTHER

-- m bytes from s on, and n after them
then_more : (b : List ℕ) (s t m n : ℕ) → s + m ≡ t → take (m + n) (drop s b) ≡ take m (drop s b) ++ take n (drop t b)
then_more b s t m n e = take-add m n (drop s b) ∙ ap (λ l. take m (drop s b) ++ take n l) (drop-drop m s b ∙ ap (λ i. drop i b) e)

four_parts : (b : List ℕ) (s t u v m : ℕ) → s + m ≡ t → t + m ≡ u → u + m ≡ v → in_one (take m (drop s b) ∷ take m (drop t b) ∷ take m (drop u b) ∷ take m (drop v b) ∷ []) ≡ take (m + (m + (m + m))) (drop s b)
unfolding in_one
four_parts b s t u v m e f g =
    sym (then_more b s t m (m + (m + m)) e ∙ ap (λ l. take m (drop s b) ++ l) (then_more b t u m (m + m) f ∙ ap (λ l. take m (drop t b) ++ l) (then_more b u v m m g ∙ ap (λ l. take m (drop u b) ++ l) (sym (append-nil (take m (drop v b)))))))

stripe_is : (b : List ℕ) (k : ℕ) → in_one (data_pieces b k) ≡ take 2048 (drop (2048 * k) b)
unfolding data_pieces
stripe_is b k =
    let from : 2048 * k + 512 * 0 ≡ 2048 * k = omega arith in
    four_parts b (2048 * k + 512 * 0) (2048 * k + 512 * 1) (2048 * k + 512 * 2) (2048 * k + 512 * 3) 512 (omega arith) (omega arith) (omega arith) ∙ ap (λ s. take 2048 (drop s b)) from

stripes_are : (b : List ℕ) (n : ℕ) → up_to (data_pieces b) n ≡ take (2048 * n) b
unfolding up_to
stripes_are b zero = refl
stripes_are b (suc n) =
    let on : 2048 * n + 2048 ≡ 2048 * suc n = omega arith in
    ap (λ l. l ++ in_one (data_pieces b n)) (stripes_are b n) ∙ ap (λ l. take (2048 * n) b ++ l) (stripe_is b n) ∙ sym (take-add (2048 * n) 2048 b) ∙ ap (λ m. take m b) on

same_stripes : (f g : ℕ → List (List ℕ)) (n : ℕ) → ((k : ℕ) → k < n → f k ≡ g k) → up_to f n ≡ up_to g n
unfolding up_to
same_stripes f g zero e = refl
same_stripes f g (suc n) e = let t = same_stripes f g n (λ k h. e k (omega arith)) in let s = e n (omega arith) in cc

-- ZEROS

zeros_are : (n : ℕ) → zeros n ≡ replicate n 0
unfolding zeros
zeros_are zero = refl
zeros_are (suc n) = ap (λ l. 0 ∷ l) (zeros_are n)

zeros_part : (s n m : ℕ) → s + n ≤ m → take n (drop s (zeros m)) ≡ zeros n
zeros_part s n m le =
    ap (λ l. take n (drop s l)) (zeros_are m) ∙ ap (take n) (drop-replicate s m 0) ∙ take-replicate n (m - s) 0 (omega arith) ∙ sym (zeros_are n)

piece_same : (x : List ℕ) (n p : ℕ) → p < n → piece_at (replicate n x) p ≡ x
piece_same x zero p h = absurd (omega arith)
piece_same x (suc n) zero h = refl
piece_same x (suc n) (suc p) h = piece_same x n p (omega arith)

zeros_shard : (n i : ℕ) → i < 6 → piece_at (encoded (zeros n ∷ zeros n ∷ zeros n ∷ zeros n ∷ [])) i ≡ zeros n
zeros_shard n i h =
    ap (λ z. piece_at (encoded (z ∷ z ∷ z ∷ z ∷ [])) i) (zeros_are n) ∙ ap (λ l. piece_at l i) (zeros_stay n) ∙ piece_same (replicate n 0) 6 i h ∙ sym (zeros_are n)

zeros_pieces : (m k : ℕ) → 16384 ≤ m → k < 8 → data_pieces (zeros m) k ≡ zeros 512 ∷ zeros 512 ∷ zeros 512 ∷ zeros 512 ∷ []
unfolding data_pieces
zeros_pieces m k le h =
    let p : (j : ℕ) → j < 4 → data_piece (zeros m) k j ≡ zeros 512 = λ j l. zeros_part (2048 * k + 512 * j) 512 m (omega arith) in
    λ i. p 0 (omega arith) i ∷ p 1 (omega arith) i ∷ p 2 (omega arith) i ∷ p 3 (omega arith) i ∷ []

zero_shard : (k i : ℕ) → k < 8 → i < 6 → shard zero_row k i ≡ zeros 512
unfolding zero_row
zero_shard k i hk hi = ap (λ xs. piece_at (encoded xs) i) (zeros_pieces 16384 k (omega arith) hk) ∙ zeros_shard 512 i hi

-- LAWS

long : (g : ℕ → Option (List ℕ)) → OfFour g → length (held_of g) ≡ 4
long g four = held_long g 6 [] ∙ ap (λ n. n + 0) four

module _ (b : Row) (k : ℕ) (g : ℕ → Option (List ℕ)) (h : k < 8) (s : Shards bytes b k g) where
  among : Among (encoded (data_pieces b.bytes k)) 0 (held_of g)
  among =
      let six = (any_four 512 (data_pieces b.bytes k) (pieces_four b.bytes k) (pieces_good b k h)).0 in
      held_among (encoded (data_pieces b.bytes k)) g 6 [] (omega arith) s.each no_more

  back : decoded (held_of g) ≡ data_pieces b.bytes k
  back = (any_four 512 (data_pieces b.bytes k) (pieces_four b.bytes k) (pieces_good b k h)).2 (held_of g) (long g s.four) among

  fills : (i : ℕ) → i < 6 → fill g i ≡ shard b k i
  fills i hi = rebuilds_same 512 (data_pieces b.bytes k) (pieces_four b.bytes k) (pieces_good b k h) (held_of g) (long g s.four) among i

joins : (b : Row) (g : ℕ → ℕ → Option (List ℕ)) → ((k : ℕ) → k < 8 → Shards bytes b k (g k)) → join g ≡ b
joins b g s =
    ap row_of (same_stripes (λ k. decoded (held_of (g k))) (data_pieces b.bytes) 8 (λ k h. back b k (g k) h (s k h)) ∙ stripes_are b.bytes 8 ∙ take_all 16384 b.bytes (omega (arith, row_long b)))
    ∙ row_of_lem b

-- the six pieces of four data pieces of bytes are whole sectors
encoded_whole : (xs : List (List ℕ)) → length xs ≡ 4 → T (lengths 512 xs) → (i : ℕ) → i < 6 → IsSector (piece_at (encoded xs) i)
encoded_whole xs e t i h =
    let a = any_four 512 xs e t in
    good_sector 512 (piece_at (encoded xs) i) (good_at 512 (encoded xs) a.1 i (omega (arith, a.0)))

shard_whole : (b : Row) (k i : ℕ) → k < 8 → i < 6 → IsSector (shard b k i)
shard_whole b k i hk hi = encoded_whole (data_pieces b.bytes k) (pieces_four b.bytes k) (pieces_good b k hk) i hi

fill_whole : (g : ℕ → Option (List ℕ)) → OfFour g → ((i : ℕ) (x : List ℕ) → i < 6 → g i ≡ some x → IsSector x) → (i : ℕ) → i < 6 → IsSector (fill g i)
fill_whole g four each i h =
    let d = decoded_good 512 (held_of g) (long g four) (held_good 512 g 6 [] (λ i x l e. let w = each i x l e in sector_good 512 x w.0 w.1) tt) in
    encoded_whole (decoded (held_of g)) d.0 d.1 i h

pub lawful_coding : LawfulCoding bytes
lawful_coding = record { zero_shard = zero_shard; joins = joins; fills = fills; shard_whole = shard_whole; fill_whole = fill_whole }
