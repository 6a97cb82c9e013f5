-- Lists of bytes, place by place.
use Prim.Native.Nat.{ℕ, zero, suc, ◌<◌, ◌≤◌}
use native.Mathlib.Omega.{arith}
use mathlib.Core.Path.{◌≡◌, refl, sym, ◌∙◌, ap, subst}
use mathlib.Core.Bool.{Bool, true, false, ◌&&◌}
use mathlib.Core.List.{List, [], ◌∷◌}
use lib.Dec.{eqb, ltb, T, lt→ltb, ltb→lt, eqb→eq, eqb_refl}
use lib.ListN.{length}
use Rattle.field.specs.Code.{lengths, At, here, there, Among, one_more, AnyFour}
use Rattle.meaning.specs.Lists.{every}
use Rattle.field.specs.Field.{double, by, times, Row, dot, map4, first, rest}
use Rattle.field.specs.Stripe.{generator, inverse, key_of, encoded, inverted, decoded, four_of_six, piece_at, RebuildsSame, zeros, ZerosStay}
use Rattle.field.proofs.Bytes.{Lin, dot_lin, below, test, test1, agree, first_lin, second_lin, third_lin, fourth_lin}
use Rattle.field.proofs.Undone.{after, Is, undone}

-- n bytes
abbrev pub Good : ℕ → List ℕ → Type 0
Good zero [] = Unit {0}
Good zero (x ∷ xs) = ⊥
Good (suc n) [] = ⊥
Good (suc n) (x ∷ xs) = (x < 256) × Good n xs

pub comp : (F G H I J : ℕ → ℕ → ℕ → ℕ → ℕ) (a b c d : List ℕ) → map4 F (map4 G a b c d) (map4 H a b c d) (map4 I a b c d) (map4 J a b c d) ≡ map4 (λ x y z w. F (G x y z w) (H x y z w) (I x y z w) (J x y z w)) a b c d
unfolding map4
comp F G H I J [] b c d = refl
comp F G H I J (x ∷ xs) b c d = ap (λ l. F (G x (first b) (first c) (first d)) (H x (first b) (first c) (first d)) (I x (first b) (first c) (first d)) (J x (first b) (first c) (first d)) ∷ l) (comp F G H I J xs (rest b) (rest c) (rest d))

pub same : (F G : ℕ → ℕ → ℕ → ℕ → ℕ) → Is F G → (n : ℕ) (a b c d : List ℕ) → Good n a → Good n b → Good n c → Good n d → map4 F a b c d ≡ map4 G a b c d
unfolding map4
same F G e zero [] b c d ga gb gc gd = refl
same F G e zero (x ∷ xs) b c d ga gb gc gd = absurd ga
same F G e (suc n) [] b c d ga gb gc gd = absurd ga
same F G e (suc n) (x ∷ xs) [] c d ga gb gc gd = absurd gb
same F G e (suc n) (x ∷ xs) (y ∷ ys) [] d ga gb gc gd = absurd gc
same F G e (suc n) (x ∷ xs) (y ∷ ys) (z ∷ zs) [] ga gb gc gd = absurd gd
same F G e (suc n) (x ∷ xs) (y ∷ ys) (z ∷ zs) (w ∷ ws) ga gb gc gd =
    let h = e x y z w ga.0 gb.0 gc.0 gd.0 in let t = same F G e n xs ys zs ws ga.1 gb.1 gc.1 gd.1 in cc

pub one : (n : ℕ) (a b c d : List ℕ) → Good n a → map4 (λ x y z w. x) a b c d ≡ a
unfolding map4
one n [] b c d g = refl
one zero (x ∷ xs) b c d g = absurd g
one (suc n) (x ∷ xs) b c d g = ap (λ l. x ∷ l) (one n xs (rest b) (rest c) (rest d) g.1)

pub two : (n : ℕ) (a b c d : List ℕ) → Good n a → Good n b → map4 (λ x y z w. y) a b c d ≡ b
unfolding map4
two zero [] [] c d g h = refl
two zero [] (y ∷ ys) c d g h = absurd h
two zero (x ∷ xs) b c d g h = absurd g
two (suc n) [] b c d g h = absurd g
two (suc n) (x ∷ xs) [] c d g h = absurd h
two (suc n) (x ∷ xs) (y ∷ ys) c d g h = ap (λ l. y ∷ l) (two n xs ys (rest c) (rest d) g.1 h.1)

pub three : (n : ℕ) (a b c d : List ℕ) → Good n a → Good n c → map4 (λ x y z w. z) a b c d ≡ c
unfolding map4
three zero [] b [] d g h = refl
three zero [] b (y ∷ ys) d g h = absurd h
three zero (x ∷ xs) b c d g h = absurd g
three (suc n) [] b c d g h = absurd g
three (suc n) (x ∷ xs) b [] d g h = absurd h
three (suc n) (x ∷ xs) b (z ∷ zs) d g h = ap (λ l. z ∷ l) (three n xs (rest b) zs (rest d) g.1 h.1)

pub four : (n : ℕ) (a b c d : List ℕ) → Good n a → Good n d → map4 (λ x y z w. w) a b c d ≡ d
unfolding map4
four zero [] b c [] g h = refl
four zero [] b c (y ∷ ys) g h = absurd h
four zero (x ∷ xs) b c d g h = absurd g
four (suc n) [] b c d g h = absurd g
four (suc n) (x ∷ xs) b c [] g h = absurd h
four (suc n) (x ∷ xs) b c (w ∷ ws) g h = ap (λ l. w ∷ l) (four n xs (rest b) (rest c) ws g.1 h.1)

pub bytes : (F : ℕ → ℕ → ℕ → ℕ → ℕ) → Lin F → (n : ℕ) (a b c d : List ℕ) → Good n a → Good n b → Good n c → Good n d → Good n (map4 F a b c d)
unfolding map4
bytes F l zero [] b c d ga gb gc gd = tt
bytes F l zero (x ∷ xs) b c d ga gb gc gd = absurd ga
bytes F l (suc n) [] b c d ga gb gc gd = absurd ga
bytes F l (suc n) (x ∷ xs) [] c d ga gb gc gd = absurd gb
bytes F l (suc n) (x ∷ xs) (y ∷ ys) [] d ga gb gc gd = absurd gc
bytes F l (suc n) (x ∷ xs) (y ∷ ys) (z ∷ zs) [] ga gb gc gd = absurd gd
bytes F l (suc n) (x ∷ xs) (y ∷ ys) (z ∷ zs) (w ∷ ws) ga gb gc gd = (l.small x y z w ga.0 gb.0 gc.0 gd.0, bytes F l n xs ys zs ws ga.1 gb.1 gc.1 gd.1)

-- the test of the promise, and Good
pub and_left : (a b : Bool) → T (a && b) → T a
and_left true b t = tt
and_left false b t = t

pub and_right : (a b : Bool) → T (a && b) → T b
and_right true b t = t
and_right false b t = absurd t

pub and_both : (a b : Bool) → T a → T b → T (a && b)
and_both true b t u = u
and_both false b t u = absurd t

abbrev is_byte : ℕ → Bool
is_byte b = ltb b 256

good_bytes : (x : List ℕ) → T (every is_byte x) → Good (length x) x
unfolding every
good_bytes [] t = tt
good_bytes (x ∷ xs) t = (ltb→lt x 256 (and_left (is_byte x) (every is_byte xs) t), good_bytes xs (and_right (is_byte x) (every is_byte xs) t))

good_from : (n : ℕ) (x : List ℕ) → T (eqb n (length x)) → T (every is_byte x) → Good n x
good_from n x e t = subst (λ m. Good m x) (sym (eqb→eq n (length x) e)) (good_bytes x t)

good_length : (n : ℕ) (x : List ℕ) → Good n x → n ≡ length x
good_length zero [] g = refl
good_length zero (x ∷ xs) g = absurd g
good_length (suc n) [] g = absurd g
good_length (suc n) (x ∷ xs) g = ap suc (good_length n xs g.1)

good_every : (n : ℕ) (x : List ℕ) → Good n x → T (every is_byte x)
unfolding every
good_every n [] g = tt
good_every zero (x ∷ xs) g = absurd g
good_every (suc n) (x ∷ xs) g = and_both (is_byte x) (every is_byte xs) (lt→ltb x 256 g.0) (good_every n xs g.1)

good_test : (n : ℕ) (x : List ℕ) → Good n x → T (eqb n (length x))
good_test n x g = subst (λ m. T (eqb n m)) (good_length n x g) (eqb_refl n)

pub lengths_more : (n : ℕ) (x : List ℕ) (xs : List (List ℕ)) → Good n x → T (lengths n xs) → T (lengths n (x ∷ xs))
unfolding lengths
lengths_more n x xs g t = and_both (eqb n (length x) && every is_byte x) (lengths n xs) (and_both (eqb n (length x)) (every is_byte x) (good_test n x g) (good_every n x g)) t

pub lengths_first : (n : ℕ) (x : List ℕ) (xs : List (List ℕ)) → T (lengths n (x ∷ xs)) → Good n x
unfolding lengths
lengths_first n x xs t =
    let h = and_left (eqb n (length x) && every is_byte x) (lengths n xs) t in
    good_from n x (and_left (eqb n (length x)) (every is_byte x) h) (and_right (eqb n (length x)) (every is_byte x) h)

pub lengths_rest : (n : ℕ) (x : List ℕ) (xs : List (List ℕ)) → T (lengths n (x ∷ xs)) → T (lengths n xs)
unfolding lengths
lengths_rest n x xs t = and_right (eqb n (length x) && every is_byte x) (lengths n xs) t

pub lengths_none : (n : ℕ) → T (lengths n [])
unfolding lengths
lengths_none n = tt

-- what is among the pieces
at_nth : (xs : List (List ℕ)) (p : ℕ) (x : List ℕ) → At xs p x → (p < length xs) × (x ≡ piece_at xs p)
at_nth [] p x u = elim u [ ]
at_nth (y ∷ xs) zero x here = (omega arith, refl)
at_nth (y ∷ xs) (suc p) x (there u) = let h = at_nth xs p x u in (omega (arith, h.0), h.1)

among : (all : List (List ℕ)) (n : ℕ) (r : record { place : ℕ; bytes : List ℕ }) (rs : List (record { place : ℕ; bytes : List ℕ })) → Among all n (r ∷ rs) → (n ≤ r.place) × At all r.place r.bytes × Among all (suc r.place) rs
among all n r rs (one_more l u m) = (l, u, m)

pub is_one : Is (dot (generator 0)) (λ x y z w. x)
unfolding below test test1 dot times by double
is_one = agree (dot (generator 0)) (λ x y z w. x) (dot_lin (generator 0)) first_lin tt

pub is_two : Is (dot (generator 1)) (λ x y z w. y)
unfolding below test test1 dot times by double
is_two = agree (dot (generator 1)) (λ x y z w. y) (dot_lin (generator 1)) second_lin tt

pub is_three : Is (dot (generator 2)) (λ x y z w. z)
unfolding below test test1 dot times by double
is_three = agree (dot (generator 2)) (λ x y z w. z) (dot_lin (generator 2)) third_lin tt

pub is_four : Is (dot (generator 3)) (λ x y z w. w)
unfolding below test test1 dot times by double
is_four = agree (dot (generator 3)) (λ x y z w. w) (dot_lin (generator 3)) fourth_lin tt

module _ (n : ℕ) (a b c d : List ℕ) (ga : Good n a) (gb : Good n b) (gc : Good n c) (gd : Good n d) where
  -- each piece is generator by its row
  rowed : (p : ℕ) → p < 6 → piece_at (encoded (a ∷ b ∷ c ∷ d ∷ [])) p ≡ map4 (dot (generator p)) a b c d
  unfolding encoded
  rowed zero h = sym (same (dot (generator 0)) (λ x y z w. x) is_one n a b c d ga gb gc gd ∙ one n a b c d ga)
  rowed (suc zero) h = sym (same (dot (generator 1)) (λ x y z w. y) is_two n a b c d ga gb gc gd ∙ two n a b c d ga gb)
  rowed (suc (suc zero)) h = sym (same (dot (generator 2)) (λ x y z w. z) is_three n a b c d ga gb gc gd ∙ three n a b c d ga gc)
  rowed (suc (suc (suc zero))) h = sym (same (dot (generator 3)) (λ x y z w. w) is_four n a b c d ga gb gc gd ∙ four n a b c d ga gd)
  rowed (suc (suc (suc (suc zero)))) h = refl
  rowed (suc (suc (suc (suc (suc zero))))) h = refl
  rowed (suc (suc (suc (suc (suc (suc p)))))) h = absurd (omega arith)

  six : length (encoded (a ∷ b ∷ c ∷ d ∷ [])) ≡ 6
  unfolding encoded
  six = refl

  sized : T (lengths n (encoded (a ∷ b ∷ c ∷ d ∷ [])))
  unfolding encoded
  sized =
      lengths_more n a _ ga (lengths_more n b _ gb (lengths_more n c _ gc (lengths_more n d _ gd
      (lengths_more n (map4 (dot (generator 4)) a b c d) _ (bytes (dot (generator 4)) (dot_lin (generator 4)) n a b c d ga gb gc gd)
      (lengths_more n (map4 (dot (generator 5)) a b c d) [] (bytes (dot (generator 5)) (dot_lin (generator 5)) n a b c d ga gb gc gd) (lengths_none n))))))

  line : (m : Row) (p q r s : ℕ) (x y z w : List ℕ) (G : ℕ → ℕ → ℕ → ℕ → ℕ) → Is (after p q r s m) G → x ≡ map4 (dot (generator p)) a b c d → y ≡ map4 (dot (generator q)) a b c d → z ≡ map4 (dot (generator r)) a b c d → w ≡ map4 (dot (generator s)) a b c d →
      map4 (dot m) x y z w ≡ map4 G a b c d
  line m p q r s x y z w G is ex ey ez ew =
      let f : map4 (dot m) x y z w ≡ map4 (dot m) (map4 (dot (generator p)) a b c d) (map4 (dot (generator q)) a b c d) (map4 (dot (generator r)) a b c d) (map4 (dot (generator s)) a b c d) = cc in
      f ∙ comp (dot m) (dot (generator p)) (dot (generator q)) (dot (generator r)) (dot (generator s)) a b c d ∙ same (after p q r s m) G is n a b c d ga gb gc gd

  joined : (p q r s : ℕ) (x y z w : List ℕ) → p < q → q < r → r < s → s < 6 → x ≡ map4 (dot (generator p)) a b c d → y ≡ map4 (dot (generator q)) a b c d → z ≡ map4 (dot (generator r)) a b c d → w ≡ map4 (dot (generator s)) a b c d →
      inverted (inverse (key_of p q r s)) x y z w ≡ a ∷ b ∷ c ∷ d ∷ []
  joined p q r s x y z w pq qr rs s6 ex ey ez ew =
      let u = undone p q r s pq qr rs s6 in
      let m = inverse (key_of p q r s) in
      let l1 : map4 (dot m.w) x y z w ≡ a = line m.w p q r s x y z w (λ x y z w. x) u.one ex ey ez ew ∙ one n a b c d ga in
      let l2 : map4 (dot m.x) x y z w ≡ b = line m.x p q r s x y z w (λ x y z w. y) u.two ex ey ez ew ∙ two n a b c d ga gb in
      let l3 : map4 (dot m.y) x y z w ≡ c = line m.y p q r s x y z w (λ x y z w. z) u.three ex ey ez ew ∙ three n a b c d ga gc in
      let l4 : map4 (dot m.z) x y z w ≡ d = line m.z p q r s x y z w (λ x y z w. w) u.four ex ey ez ew ∙ four n a b c d ga gd in
      cc

  mended : (some' : List (record { place : ℕ; bytes : List ℕ })) → length some' ≡ 4 → Among (encoded (a ∷ b ∷ c ∷ d ∷ [])) 0 some' → decoded some' ≡ a ∷ b ∷ c ∷ d ∷ []
  unfolding decoded
  mended [] e m = absurd (omega arith)
  mended (x ∷ []) e m = absurd (omega arith)
  mended (x ∷ y ∷ []) e m = absurd (omega arith)
  mended (x ∷ y ∷ z ∷ []) e m = absurd (omega arith)
  mended (x ∷ y ∷ z ∷ w ∷ []) e m =
      let all = encoded (a ∷ b ∷ c ∷ d ∷ []) in
      let l = six in
      let i = among all 0 x (y ∷ z ∷ w ∷ []) m in
      let j = among all (suc x.place) y (z ∷ w ∷ []) i.2 in
      let k = among all (suc y.place) z (w ∷ []) j.2 in
      let o = among all (suc z.place) w [] k.2 in
      let ai = at_nth all x.place x.bytes i.1 in
      let aj = at_nth all y.place y.bytes j.1 in
      let ak = at_nth all z.place z.bytes k.1 in
      let ao = at_nth all w.place w.bytes o.1 in
      joined x.place y.place z.place w.place x.bytes y.bytes z.bytes w.bytes j.0 k.0 o.0 (subst (λ t. w.place < t) l ao.0)
      (ai.1 ∙ rowed x.place (subst (λ t. x.place < t) l ai.0)) (aj.1 ∙ rowed y.place (subst (λ t. y.place < t) l aj.0)) (ak.1 ∙ rowed z.place (subst (λ t. z.place < t) l ak.0)) (ao.1 ∙ rowed w.place (subst (λ t. w.place < t) l ao.0))
  mended (x ∷ y ∷ z ∷ w ∷ v ∷ vs) e m = absurd (omega arith)

pub any_four : AnyFour four_of_six
any_four n [] e t = absurd (omega arith)
any_four n (x ∷ []) e t = absurd (omega arith)
any_four n (x ∷ y ∷ []) e t = absurd (omega arith)
any_four n (x ∷ y ∷ z ∷ []) e t = absurd (omega arith)
any_four n (x ∷ y ∷ z ∷ w ∷ []) e t =
    let t1 = lengths_rest n x (y ∷ z ∷ w ∷ []) t in
    let t2 = lengths_rest n y (z ∷ w ∷ []) t1 in
    let t3 = lengths_rest n z (w ∷ []) t2 in
    let gx = lengths_first n x (y ∷ z ∷ w ∷ []) t in
    let gy = lengths_first n y (z ∷ w ∷ []) t1 in
    let gz = lengths_first n z (w ∷ []) t2 in
    let gw = lengths_first n w [] t3 in
    (six n x y z w gx gy gz gw, sized n x y z w gx gy gz gw, mended n x y z w gx gy gz gw)
any_four n (x ∷ y ∷ z ∷ w ∷ v ∷ vs) e t = absurd (omega arith)

pub rebuilds_same : RebuildsSame
rebuilds_same n data' e t hs four m p = ap (λ d. piece_at (encoded d) p) ((any_four n data' e t).2 hs four m)

zeros_map : (F : ℕ → ℕ → ℕ → ℕ → ℕ) → F 0 0 0 0 ≡ 0 → (n : ℕ) → map4 F (zeros n) (zeros n) (zeros n) (zeros n) ≡ zeros n
unfolding map4
zeros_map F e zero = refl
zeros_map F e (suc n) = let t = zeros_map F e n in cc

pub zeros_stay : ZerosStay
unfolding encoded dot times by double
zeros_stay n = let p = zeros_map (dot (generator 4)) refl n in let q = zeros_map (dot (generator 5)) refl n in cc
