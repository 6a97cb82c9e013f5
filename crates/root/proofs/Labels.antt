-- Labels of 480 bytes are lawful.
-- Assumes nothing.
use Rattle.std.proofs.Common.{◌≡◌, ℕ, zero, suc, Bool, true, false, cond, ◌&&◌, T, eqb, ltb, ◌⊎◌, List, [], ◌∷◌, ◌++◌, length, take, drop, sym, refl, ap, ◌∙◌, subst, inl, inr, arith, eqb→eq, length-append}
use mathlib.Core.Option.{Option, none, some, map}
use Rattle.std.specs.Str.{bytes_eq}
use Rattle.std.proofs.lemmas.Slice.Eq.{bytes_eq-Decides}
use Rattle.std.proofs.lemmas.List.{take_all, take-append-le}
use Rattle.drives.specs.Drives.{zeros, all_bytes}
use Rattle.root.specs.Root.{Label, missing, blank, rebuilding, has, empty, committed, Lawful}
use Rattle.root.specs.Labels.{fits_block, Block, when, block_of, sector, encode, committed_from, decode, labels}

-- LENGTHS AND BYTES

zeros_long : (n : ℕ) → length (zeros n) ≡ n
unfolding zeros
zeros_long zero = refl
zeros_long (suc n) = ap suc (zeros_long n)

zeros_bytes : (n : ℕ) → T (all_bytes (zeros n))
unfolding zeros all_bytes
zeros_bytes zero = tt
zeros_bytes (suc n) = zeros_bytes n

and_left : (a b : Bool) → T (a && b) → T a
and_left true b t = tt
and_left false b t = t

and_right : (a b : Bool) → T (a && b) → T b
and_right true b t = t
and_right false b t = absurd t

both : (a b : Bool) → T a → T b → T (a && b)
both true b x y = y
both false b x y = absurd x

bytes_append : (a b : List ℕ) → T (all_bytes a) → T (all_bytes b) → T (all_bytes (a ++ b))
unfolding all_bytes
bytes_append [] b h k = k
bytes_append (x ∷ xs) b h k = both (ltb x 256) (all_bytes (xs ++ b)) (and_left (ltb x 256) (all_bytes xs) h) (bytes_append xs b (and_right (ltb x 256) (all_bytes xs) h) k)

pub block_long : (v : Block) → length v.bytes ≡ 480
block_long v = eqb→eq (length v.bytes) 480 (and_left (eqb (length v.bytes) 480) (all_bytes v.bytes) v.is_block)

pub block_bytes : (v : Block) → T (all_bytes v.bytes)
block_bytes v = and_right (eqb (length v.bytes) 480) (all_bytes v.bytes) v.is_block

sector_long : (k : ℕ) (p : List ℕ) → length p ≡ 480 → length (sector k p) ≡ 512
unfolding sector zeros
sector_long k p e = simp length-append (omega (arith, zeros_long 6, zeros_long 16))

sector_bytes : (k : ℕ) (p : List ℕ) → T (ltb k 256) → T (all_bytes p) → T (all_bytes (sector k p))
unfolding sector zeros all_bytes
sector_bytes k p l h = both (ltb k 256) _ l (bytes_append p (zeros 16) h (zeros_bytes 16))

-- TESTS

same_self : (b : List ℕ) → bytes_eq b b ≡ true
same_self b = (bytes_eq-Decides b b).1 refl

zeros_some : bytes_eq (zeros 512) [] ≡ false
unfolding zeros
zeros_some = refl

sector_some : (k : ℕ) (p : List ℕ) → bytes_eq (sector k p) [] ≡ false
unfolding sector
sector_some k p = refl

sector_used : (k : ℕ) (p : List ℕ) → bytes_eq (sector k p) (zeros 512) ≡ false
unfolding sector zeros
sector_used k p = refl

sector_kind : (k l : ℕ) (p q : List ℕ) → eqb k l ≡ false → bytes_eq (sector k p) (sector l q) ≡ false
unfolding sector
sector_kind k l p q e = ap (λ t. t && bytes_eq (zeros 6 ++ p ++ zeros 16) (zeros 6 ++ q ++ zeros 16)) e

payload_of_lem : (v : Block) → take 480 (drop 16 (sector 2 v.bytes)) ≡ v.bytes
unfolding sector zeros
payload_of_lem v = rw (take-append-le 480 v.bytes (zeros 16) (omega (arith, block_long v))) (take_all 480 v.bytes (omega (arith, block_long v)))

when_true : {A : Type 0} (t : Bool) (f : T t → A) (h : T t) → when t f ≡ some (f h)
when_true true f h = refl
when_true false f h = absurd h

block_of_lem : (v : Block) → block_of v.bytes ≡ some v
unfolding block_of
block_of_lem v = when_true (fits_block v.bytes) (λ h. record { bytes = v.bytes; is_block = h }) v.is_block

from_sector : (v : Block) → committed_from (sector 2 v.bytes) v.bytes ≡ some (has (committed v))
unfolding committed_from
from_sector v = rw (same_self (sector 2 v.bytes), block_of_lem v) refl

-- LAWS

decodes : (l : Label Block) → decode (encode l) ≡ some l
unfolding decode encode
decodes missing = refl
decodes blank = rw (zeros_some, same_self (zeros 512)) refl
decodes rebuilding = rw (sector_some, sector_used, same_self (sector 3 (zeros 480))) refl
decodes (has empty) = rw (sector_some, sector_used, sector_kind 1 3 (zeros 480) (zeros 480) refl, same_self (sector 1 (zeros 480))) refl
decodes (has (committed v)) =
    rw (sector_some, sector_used, sector_kind 2 3 v.bytes (zeros 480) refl, sector_kind 2 1 v.bytes (zeros 480) refl, payload_of_lem v) (from_sector v)

whole : (l : Label Block) → (l ≡ missing) ⊎ (length (encode l) ≡ 512)
unfolding encode
whole missing = inl refl
whole blank = inr (zeros_long 512)
whole rebuilding = inr (sector_long 3 (zeros 480) (zeros_long 480))
whole (has empty) = inr (sector_long 1 (zeros 480) (zeros_long 480))
whole (has (committed v)) = inr (sector_long 2 v.bytes (block_long v))

bytes : (l : Label Block) → T (all_bytes (encode l))
unfolding encode all_bytes
bytes missing = tt
bytes blank = zeros_bytes 512
bytes rebuilding = sector_bytes 3 (zeros 480) tt (zeros_bytes 480)
bytes (has empty) = sector_bytes 1 (zeros 480) tt (zeros_bytes 480)
bytes (has (committed v)) = sector_bytes 2 v.bytes tt (block_bytes v)

-- one test of `decode`, and those after it
tested : (b c : List ℕ) (k l : Label Block) (y : Option (Label Block)) → encode k ≡ c → (y ≡ some l → encode l ≡ b) → cond (bytes_eq b c) (some k) y ≡ some l → encode l ≡ b
tested b c k l y e rest = go (bytes_eq b c) refl
  where
    go : (t : Bool) → bytes_eq b c ≡ t → cond t (some k) y ≡ some l → encode l ≡ b
    go true h p = let q : b ≡ c = (bytes_eq-Decides b c).0 h in let r : k ≡ l = cc in cc
    go false h p = rest p

block_back : (l : Label Block) (p : List ℕ) (t : Bool) (f : T t → Block) → ((h : T t) → (f h).bytes ≡ p) → map (λ v. has (committed v)) (when t f) ≡ some l → encode l ≡ sector 2 p
unfolding encode
block_back l p true f h e = let q : has (committed (f tt)) ≡ l = cc in subst (λ x. encode x ≡ sector 2 p) q (ap (sector 2) (h tt))
block_back l p false f h e = let z : ◌≡◌ {A = ℕ} 0 1 = cc in absurd (omega arith)

committed_back : (b p : List ℕ) (l : Label Block) → committed_from b p ≡ some l → encode l ≡ b
unfolding committed_from block_of
committed_back b p l = go (bytes_eq b (sector 2 p)) refl
  where
    go : (t : Bool) → bytes_eq b (sector 2 p) ≡ t → cond t (map (λ v. has (committed v)) (block_of p)) none ≡ some l → encode l ≡ b
    go true h e = block_back l p (fits_block p) (λ h. record { bytes = p; is_block = h }) (λ h. refl) e ∙ sym ((bytes_eq-Decides b (sector 2 p)).0 h)
    go false h e = let z : ◌≡◌ {A = ℕ} 0 1 = cc in absurd (omega arith)

back : (b : List ℕ) (l : Label Block) → decode b ≡ some l → encode l ≡ b
unfolding decode encode
back b l =
    tested b [] missing l _ refl (tested b (zeros 512) blank l _ refl (tested b (sector 3 (zeros 480)) rebuilding l _ refl (tested b (sector 1 (zeros 480)) (has empty) l _ refl (committed_back b _ l))))

pub labels_lawful : Lawful labels
unfolding encode
labels_lawful = record { missing_is = refl; blank_is = refl; whole = whole; bytes = bytes; there = decodes; back = back }
