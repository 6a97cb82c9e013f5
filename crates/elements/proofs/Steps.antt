-- A piece that is written from its start on: one vector more, one byte more, and its end.
-- Assumes nothing.
use Rattle.std.proofs.Common.{◌≡◌, ℕ, zero, suc, ◌+◌, ◌<◌, ◌≤◌, List, [], ◌∷◌, ◌++◌, length, get_or, take, drop, set, sym, refl, ap, ◌∙◌, subst, arith, take_all, take-add}
use lib.Lanes.{chunk}
use Rattle.std.proofs.lemmas.List.{take_more, take_more_set}
use Rattle.field.specs.Field.{map4, first, rest}

take_rest : (n : ℕ) (l : List ℕ) → rest (take (suc n) l) ≡ take n (rest l)
take_rest zero [] = refl
take_rest (suc n) [] = refl
take_rest n (x ∷ l) = refl

take_first : (n : ℕ) (l : List ℕ) → first (take (suc n) l) ≡ first l
take_first n [] = refl
take_first n (x ∷ l) = refl

drop_rest : (n : ℕ) (l : List ℕ) → drop (suc n) l ≡ drop n (rest l)
drop_rest zero [] = refl
drop_rest (suc n) [] = refl
drop_rest n (x ∷ l) = refl

get_d_rest : (k : ℕ) (l : List ℕ) → get_or (rest l) k 0 ≡ get_or l (suc k) 0
get_d_rest k [] = refl
get_d_rest k (x ∷ l) = refl

get_d_first : (l : List ℕ) → first l ≡ get_or l 0 0
get_d_first [] = refl
get_d_first (x ∷ l) = refl

module _ (F : ℕ → ℕ → ℕ → ℕ → ℕ) where
  pub take_map4 : (n : ℕ) (a b c d : List ℕ) → take n (map4 F a b c d) ≡ map4 F (take n a) (take n b) (take n c) (take n d)
  unfolding map4
  take_map4 zero a b c d = refl
  take_map4 (suc n) [] b c d = refl
  take_map4 (suc n) (x ∷ a) b c d =
      let t = take_map4 n a (rest b) (rest c) (rest d) in
      let eb = take_rest n b in let ec = take_rest n c in let ed = take_rest n d in
      let fb = take_first n b in let fc = take_first n c in let fd = take_first n d in
      cc

  pub drop_map4 : (n : ℕ) (a b c d : List ℕ) → drop n (map4 F a b c d) ≡ map4 F (drop n a) (drop n b) (drop n c) (drop n d)
  unfolding map4
  drop_map4 zero a b c d = refl
  drop_map4 (suc n) [] b c d = refl
  drop_map4 (suc n) (x ∷ a) b c d =
      let t = drop_map4 n a (rest b) (rest c) (rest d) in
      let eb = drop_rest n b in let ec = drop_rest n c in let ed = drop_rest n d in
      cc

  pub length_map4 : (a b c d : List ℕ) → length (map4 F a b c d) ≡ length a
  unfolding map4
  length_map4 [] b c d = refl
  length_map4 (x ∷ a) b c d = ap suc (length_map4 a (rest b) (rest c) (rest d))

  pub get_d_map4 : (k : ℕ) (a b c d : List ℕ) → k < length a → get_or (map4 F a b c d) k 0 ≡ F (get_or a k 0) (get_or b k 0) (get_or c k 0) (get_or d k 0)
  unfolding map4
  get_d_map4 k [] b c d h = absurd (omega arith)
  get_d_map4 zero (x ∷ a) b c d h = let eb = get_d_first b in let ec = get_d_first c in let ed = get_d_first d in cc
  get_d_map4 (suc k) (x ∷ a) b c d h =
      let t = get_d_map4 k a (rest b) (rest c) (rest d) (omega arith) in
      let eb = get_d_rest k b in let ec = get_d_rest k c in let ed = get_d_rest k d in
      cc

  module _ (a b c d : List ℕ) where
    -- a vector more
    pub lanes_more : (i m : ℕ) (out new v : List ℕ) → m ≡ i + 32 → take i out ≡ take i (map4 F a b c d) → v ≡ map4 F (chunk i 32 a) (chunk i 32 b) (chunk i 32 c) (chunk i 32 d) → take (i + 32) new ≡ take i out ++ v → take m new ≡ take m (map4 F a b c d)
    lanes_more i m out new v e before is put =
        let all = map4 F a b c d in
        let t : take (i + 32) all ≡ take i all ++ take 32 (drop i all) = take-add i 32 all in
        let dr = drop_map4 i a b c d in
        let tk = take_map4 32 (drop i a) (drop i b) (drop i c) (drop i d) in
        let w : take (i + 32) new ≡ take (i + 32) all = cc in
        cc

    -- a byte more
    pub byte_more : (i v : ℕ) (out : List ℕ) → i < length out → i < length a → take i out ≡ take i (map4 F a b c d) → v ≡ F (get_or a i 0) (get_or b i 0) (get_or c i 0) (get_or d i 0) → take (i + 1) (set out i v) ≡ take (i + 1) (map4 F a b c d)
    byte_more i v out ho ha before is =
        let all = map4 F a b c d in
        let s = take_more_set out i v ho in
        let t = take_more all i 0 (subst (λ n. i < n) (sym (length_map4 a b c d)) ha) in
        let g = get_d_map4 i a b c d ha in
        cc

    pub whole : (n : ℕ) (out : List ℕ) → length out ≡ length a → length a ≤ n → take n out ≡ take n (map4 F a b c d) → out ≡ map4 F a b c d
    whole n out eo hn before =
        let l = length_map4 a b c d in
        sym (take_all n out (omega arith)) ∙ before ∙ take_all n (map4 F a b c d) (omega arith)
