-- What is written of a field is read again, and what is read was written so: a law for each field, and how they go on one after the other.
use Rattle.std.proofs.Common.{◌≡◌, ℕ, zero, suc, ◌+◌, ◌*◌, ◌/◌, ◌%◌, ◌^◌, ◌<◌, ◌≤◌, Bool, true, false, cond, eqb, ltb, ◌⊎◌, List, [], ◌∷◌, ◌++◌, length, take, drop, Some, None, Option, sym, refl, ap, ◌∙◌, subst, inl, inr, mod-lt, div-add-mod', arith, length-append}
use native.Mathlib.Nat.{pow-succ', pow-zero}
use lib.Arith.{digits_lt, digits_div, digits_mod}
use Rattle.std.proofs.lemmas.List.{append_assoc, append-nil, take_at, drop_at, take-append-drop, get_or-drop, length-take-le, nil_from_length}
use Rattle.std.proofs.lemmas.Bool.Decides.{nat_tests, eqb_tells}
use Rattle.lines.specs.Fields.{Took, ◌then◌, number, value, number_in, bytes_in, counted, counted_in}
use Rattle.meaning.specs.Rooms.{Expect, Any, Absent, Is}
use Rattle.lines.specs.Calls.{at_end, name, many, many_in, are_many, all_in, whole, listed, flag, flag_of, flag_in, expected, expected_of, expected_in, rule, rule_in}
use Rattle.lines.specs.Replies.{entry, entry_in, ShownFits}
use Rattle.lines.specs.Fits.{Bytes, NumberFits, CountedFits, FlagFits, ExpectFits, RuleFits, Each}

-- A FIELD

abbrev pub took : {A : Type 0} → A → List ℕ → Took A
took a l = record { value = a; rest = l }

pub record Laws {A : Type 0} (write : A → List ℕ) (read : List ℕ → Option (Took A)) (Ok : A → Type 0) : Type 0 where
  pub forth : (a : A) (l : List ℕ) → Ok a → read (write a ++ l) ≡ Some (took a l)
  pub back : (l : List ℕ) (a : A) (rest : List ℕ) → Bytes l → read l ≡ Some (took a rest) → (l ≡ write a ++ rest) × Ok a × Bytes rest

-- what came before a field came of it
pub then_some : {A B : Type 0} (o : Option (Took A)) (f : A → List ℕ → Option B) (b : B) → (o then f) ≡ Some b → (t : Took A) × (o ≡ Some t) × (f t.value t.rest ≡ Some b)
then_some None f b e = let z : ◌≡◌ {A = ℕ} 0 1 = cc in absurd (omega arith)
then_some (Some t) f b e = (t, refl, e)

bytes_drop : (n : ℕ) (l : List ℕ) → Bytes l → Bytes (drop n l)
bytes_drop n l b i = rw get_or-drop (b (n + i))

bytes_take : (n : ℕ) (l : List ℕ) → Bytes l → Bytes (take n l)
bytes_take zero l b i = omega arith
bytes_take (suc n) [] b i = omega arith
bytes_take (suc n) (x ∷ l) b zero = b 0
bytes_take (suc n) (x ∷ l) b (suc i) = bytes_take n l (λ j. b (suc j)) i

-- A NUMBER

pub length_number : (k n : ℕ) → length (number k n) ≡ k
length_number zero n = refl
length_number (suc k) n = ap suc (length_number k (n % 256 ^ k))

pos : (k : ℕ) → 0 < 256 ^ k
pos zero = omega arith
pos (suc k) = omega (arith, pos k, pow-succ' 256 k)

pub value_number : (k n : ℕ) (l : List ℕ) → n < 256 ^ k → value k (number k n ++ l) ≡ n
value_number zero n l h = omega (arith, pow-zero 256)
value_number (suc k) n l h = ap (λ (m : ℕ). n / 256 ^ k * 256 ^ k + m) (value_number k (n % 256 ^ k) l (mod-lt n (pos k))) ∙ div-add-mod' n (256 ^ k)

pub value_fits : (k : ℕ) (l : List ℕ) → Bytes l → value k l < 256 ^ k
value_fits zero l b = omega (arith, pow-zero 256)
value_fits (suc k) l b = rw pow-succ' (digits_lt (b 0) (value_fits k (drop 1 l) (bytes_drop 1 l b)))

-- the bytes behind it don't count
pub value_take : (k : ℕ) (l : List ℕ) → value k (take k l) ≡ value k l
value_take zero l = refl
value_take (suc k) [] = refl
value_take (suc k) (x ∷ l) = ap (λ (m : ℕ). x * 256 ^ k + m) (value_take k l)

number_value : (k : ℕ) (l : List ℕ) → Bytes l → k ≤ length l → l ≡ number k (value k l) ++ drop k l
number_value zero l b h = refl
number_value (suc k) [] b h = absurd (omega arith)
number_value (suc k) (x ∷ l) b h =
    let v : value k l < 256 ^ k = value_fits k l (λ i. b (suc i)) in
    let d = digits_div x v in
    let m = digits_mod x v in
    rw (d, m) (ap (λ (r : List ℕ). x ∷ r) (number_value k l (λ i. b (suc i)) (omega arith)))

number_forth : (k n : ℕ) (l : List ℕ) → n < 256 ^ k → number_in k (number k n ++ l) ≡ Some (took n l)
number_forth k n l h =
    let long : length (number k n ++ l) ≡ k + length l = length-append (number k n) l ∙ ap (λ (m : ℕ). m + length l) (length_number k n) in
    let e : ltb (length (number k n ++ l)) k ≡ false = grind (arith, nat_tests) in
    rw (e, value_number k n l h, drop_at (number k n) l k (length_number k n))

-- a test that failed
test_some : {A : Type 0} (b : Bool) (x y : A) → cond b None (Some x) ≡ Some y → (b ≡ false) × (x ≡ y)
test_some true x y e = let z : ◌≡◌ {A = ℕ} 0 1 = cc in absurd (omega arith)
test_some false x y e = (refl, cc)

number_back : (k : ℕ) (l : List ℕ) (n : ℕ) (rest : List ℕ) → Bytes l → number_in k l ≡ Some (took n rest) → (l ≡ number k n ++ rest) × (n < 256 ^ k) × Bytes rest
number_back k l n rest b e =
    let t = test_some _ (took (value k l) (drop k l)) (took n rest) e in
    let h : k ≤ length l = grind (arith, nat_tests, t.0) in
    let v : value k l ≡ n = ap (λ (t : Took ℕ). t.value) t.1 in
    let r : drop k l ≡ rest = ap (λ (t : Took ℕ). t.rest) t.1 in (
      number_value k l b h ∙ ap (λ (m : ℕ). number k m ++ drop k l) v ∙ ap (λ (d : List ℕ). number k n ++ d) r,
      subst (λ (m : ℕ). m < 256 ^ k) v (value_fits k l b),
      subst (λ (d : List ℕ). Bytes d) r (bytes_drop k l b),
    )

pub number_laws : (k : ℕ) → Laws (number k) (number_in k) (NumberFits k)
number_laws k = record { forth = number_forth k; back = number_back k }

-- BYTES AND THEIR COUNT

bytes_forth : (bs l : List ℕ) → bytes_in (length bs) (bs ++ l) ≡ Some (took bs l)
bytes_forth bs l =
    let e : ltb (length (bs ++ l)) (length bs) ≡ false = grind (arith, nat_tests, length-append bs l) in
    rw (e, take_at bs l (length bs) refl, drop_at bs l (length bs) refl)

bytes_back : (n : ℕ) (l bs rest : List ℕ) → Bytes l → bytes_in n l ≡ Some (took bs rest) → (l ≡ bs ++ rest) × (length bs ≡ n) × Bytes bs × Bytes rest
bytes_back n l bs rest b e =
    let t = test_some _ (took (take n l) (drop n l)) (took bs rest) e in
    let h : n ≤ length l = grind (arith, nat_tests, t.0) in
    let v : take n l ≡ bs = ap (λ (t : Took (List ℕ)). t.value) t.1 in
    let r : drop n l ≡ rest = ap (λ (t : Took (List ℕ)). t.rest) t.1 in (
      sym (take-append-drop n l) ∙ ap (λ (x : List ℕ). x ++ drop n l) v ∙ ap (λ (x : List ℕ). bs ++ x) r,
      ap length (sym v) ∙ length-take-le n l h,
      subst (λ (x : List ℕ). Bytes x) v (bytes_take n l b),
      subst (λ (x : List ℕ). Bytes x) r (bytes_drop n l b),
    )

-- go on behind a field that is there
pub then_forth : {A B : Type 0} {write : A → List ℕ} {read : List ℕ → Option (Took A)} {Ok : A → Type 0} → Laws write read Ok → (a : A) (l : List ℕ) (f : A → List ℕ → Option B) (o : Option B) → Ok a → f a l ≡ o → (read (write a ++ l) then f) ≡ o
then_forth laws a l f o ok e = rw (laws.forth a l ok) e

counted_forth : (k : ℕ) (bs l : List ℕ) → CountedFits k bs → counted_in k (counted k bs ++ l) ≡ Some (took bs l)
counted_forth k bs l ok = rw append_assoc (then_forth (number_laws k) (length bs) (bs ++ l) (λ n rest. bytes_in n rest) (Some (took bs l)) ok.0 (bytes_forth bs l))

counted_back : (k : ℕ) (l bs rest : List ℕ) → Bytes l → counted_in k l ≡ Some (took bs rest) → (l ≡ counted k bs ++ rest) × CountedFits k bs × Bytes rest
counted_back k l bs rest b e =
    let t = then_some (number_in k l) (λ n rest. bytes_in n rest) (took bs rest) e in
    let n = number_back k l t.0.value t.0.rest b t.1 in
    let c = bytes_back t.0.value t.0.rest bs rest n.2 t.2 in (
      n.0 ∙ ap (λ (x : List ℕ). number k t.0.value ++ x) c.0 ∙ ap (λ (m : ℕ). number k m ++ (bs ++ rest)) (sym c.1) ∙ sym (append_assoc (number k (length bs)) bs rest),
      (subst (λ (m : ℕ). m < 256 ^ k) (sym c.1) n.1, c.2),
      c.3,
    )

pub counted_laws : (k : ℕ) → Laws (counted k) (counted_in k) (CountedFits k)
counted_laws k = record { forth = counted_forth k; back = counted_back k }

-- SEVERAL FIELDS

-- what is read off these bytes
pub record Forth {C : Type 0} (c : C) (l : List ℕ) (p : List ℕ → Option C) : Type 0 where
  pub reads : p l ≡ Some c

pub go_on : {A C : Type 0} {write : A → List ℕ} {read : List ℕ → Option (Took A)} {Ok : A → Type 0} {c : C} → Laws write read Ok → (a : A) (l : List ℕ) (f : A → List ℕ → Option C) → Ok a → Forth c l (f a) → Forth c (write a ++ l) (λ l. read l then f)
go_on {c = c} laws a l f ok e = record { reads = then_forth laws a l f (Some c) ok e.reads }

pub done : {C : Type 0} (c : C) → Forth c [] (λ l. at_end l c)
done c = record { reads = refl }

-- whatever is read off l, with w l read in all, is as said
pub record Back {C : Type 0} (Says : C → List ℕ → Type 0) (w : List ℕ → List ℕ) (p : List ℕ → Option C) : Type 0 where
  pub says : (l : List ℕ) (c : C) → Bytes l → p l ≡ Some c → Says c (w l)

pub then_back : {A C : Type 0} {write : A → List ℕ} {read : List ℕ → Option (Took A)} {Ok : A → Type 0} {Says : C → List ℕ → Type 0} → Laws write read Ok → (w : List ℕ → List ℕ) (f : A → List ℕ → Option C) →
    ((a : A) → Ok a → Back Says (λ l. w (write a ++ l)) (f a)) → Back Says w (λ l. read l then f)
then_back {C = C} {read = read} {Says = Says} laws w f go = record { says = says }
  where
    says : (l : List ℕ) (c : C) → Bytes l → (read l then f) ≡ Some c → Says c (w l)
    says l c b e =
        let t = then_some (read l) f c e in
        let k = laws.back l t.0.value t.0.rest b t.1 in
        subst (λ (x : List ℕ). Says c (w x)) (sym k.0) ((go t.0.value k.1).says t.0.rest c k.2 t.2)

pub leaf_back : {C : Type 0} {Says : C → List ℕ → Type 0} (w : List ℕ → List ℕ) (f : List ℕ → C) → ((l : List ℕ) → Bytes l → Says (f l) (w l)) → Back Says w (λ l. Some (f l))
leaf_back {C} {Says} w f go = record { says = says }
  where
    says : (l : List ℕ) (c : C) → Bytes l → Some (f l) ≡ Some c → Says c (w l)
    says l c b e = let same : f l ≡ c = cc in subst (λ (c : C). Says c (w l)) same (go l b)

at_end_lem : {C : Type 0} (l : List ℕ) (c d : C) → at_end l c ≡ Some d → (l ≡ []) × (c ≡ d)
at_end_lem l c d e =
    let t = go (eqb (length l) 0) e in
    (nil_from_length l (grind (arith, nat_tests, t.0)), t.1)
  where
    go : (b : Bool) → cond b (Some c) None ≡ Some d → (b ≡ true) × (c ≡ d)
    go true e = (refl, cc)
    go false e = let z : ◌≡◌ {A = ℕ} 0 1 = cc in absurd (omega arith)

pub end_back : {C : Type 0} {Says : C → List ℕ → Type 0} (w : List ℕ → List ℕ) (c : C) → Says c (w []) → Back Says w (λ l. at_end l c)
end_back {C} {Says} w c go = record { says = says }
  where
    says : (l : List ℕ) (d : C) → Bytes l → at_end l c ≡ Some d → Says d (w l)
    says l d b e =
        let k = at_end_lem l c d e in
        subst (λ (c : C). Says c (w l)) k.1 (subst (λ (x : List ℕ). Says c (w x)) (sym k.0) go)

pub none_back : {C : Type 0} {Says : C → List ℕ → Type 0} (w : List ℕ → List ℕ) → Back Says w (λ l. None)
none_back {C} {Says} w = record { says = says }
  where
    says : (l : List ℕ) (c : C) → Bytes l → None ≡ Some c → Says c (w l)
    says l c b e = let z : ◌≡◌ {A = ℕ} 0 1 = cc in absurd (omega arith)

pub kind_back : {C : Type 0} {Says : C → List ℕ → Type 0} (w : List ℕ → List ℕ) (n i : ℕ) (p q : List ℕ → Option C) → (n ≡ i → Back Says w p) → Back Says w q → Back Says w (λ l. cond (eqb n i) (p l) (q l))
kind_back {C} {Says} w n i p q hp hq = record { says = λ l c b e. go l c b (eqb n i) (eqb_tells n i) e }
  where
    go : (l : List ℕ) (c : C) → Bytes l → (t : Bool) → ((t ≡ true) × (n ≡ i)) ⊎ ((t ≡ false) × (n ≡ i → ⊥)) → cond t (p l) (q l) ≡ Some c → Says c (w l)
    go l c b true (inl h) e = (hp h.1).says l c b e
    go l c b true (inr h) e = let z : true ≡ false = h.0 in let y : ◌≡◌ {A = ℕ} 0 1 = cc in absurd (omega arith)
    go l c b false s e = hq.says l c b e

-- what is said of one field among others
abbrev pub Field : {A : Type 0} → (A → List ℕ) → (A → Type 0) → Took A → List ℕ → Type 0
Field write Ok t l = (l ≡ write t.value ++ t.rest) × Ok t.value × Bytes t.rest

-- A FLAG, WHAT IS EXPECTED, A RULE

pub flag_laws : Laws flag flag_in FlagFits
flag_laws = record { forth = forth; back = λ l a rest b e. back.says l (took a rest) b e }
  where
    forth : (a : Bool) (l : List ℕ) → FlagFits a → flag_in (flag a ++ l) ≡ Some (took a l)
    forth true l ok = then_forth (number_laws 1) 1 l flag_of (Some (took true l)) (omega arith) refl
    forth false l ok = then_forth (number_laws 1) 0 l flag_of (Some (took false l)) (omega arith) refl

    back : Back (Field flag FlagFits) (λ l. l) flag_in
    back = then_back (number_laws 1) (λ l. l) flag_of (λ n h.
        kind_back _ n 0 _ _ (λ e. leaf_back _ _ (λ l b. (ap (λ (n : ℕ). number 1 n ++ l) e, tt, b)))
        (kind_back _ n 1 _ _ (λ e. leaf_back _ _ (λ l b. (ap (λ (n : ℕ). number 1 n ++ l) e, tt, b))) (none_back _)))

pub expected_laws : Laws expected expected_in ExpectFits
expected_laws = record { forth = forth; back = λ l a rest b e. back.says l (took a rest) b e }
  where
    forth : (a : Expect) (l : List ℕ) → ExpectFits a → expected_in (expected a ++ l) ≡ Some (took a l)
    forth Any l ok = then_forth (number_laws 1) 0 l expected_of (Some (took Any l)) (omega arith) refl
    forth Absent l ok = then_forth (number_laws 1) 1 l expected_of (Some (took Absent l)) (omega arith) refl
    forth (Is n) l ok = then_forth (number_laws 1) 2 (number 8 n ++ l) expected_of (Some (took (Is n) l)) (omega arith) (then_forth (number_laws 8) n l (λ n l. Some (took (Is n) l)) (Some (took (Is n) l)) ok refl)

    back : Back (Field expected ExpectFits) (λ l. l) expected_in
    back = then_back (number_laws 1) (λ l. l) expected_of (λ n h.
        kind_back _ n 0 _ _ (λ e. leaf_back _ _ (λ l b. (ap (λ (n : ℕ). number 1 n ++ l) e, tt, b)))
        (kind_back _ n 1 _ _ (λ e. leaf_back _ _ (λ l b. (ap (λ (n : ℕ). number 1 n ++ l) e, tt, b)))
        (kind_back _ n 2 _ _ (λ e. then_back (number_laws 8) _ _ (λ m k. leaf_back _ _ (λ l b. (ap (λ (n : ℕ). number 1 n ++ (number 8 m ++ l)) e, k, b)))) (none_back _))))

-- a name and two numbers, of which something is made
three_laws : {A : Type 0} (make : List ℕ → ℕ → ℕ → A) (key : A → List ℕ) (one two : A → ℕ) → ((x : A) → make (key x) (one x) (two x) ≡ x) →
    ((k : List ℕ) (m n : ℕ) → (key (make k m n) ≡ k) × (one (make k m n) ≡ m) × (two (make k m n) ≡ n)) →
    Laws (λ x. name (key x) ++ (number 8 (one x) ++ (number 8 (two x) ++ []))) (λ l. counted_in 1 l then (λ k l. number_in 8 l then (λ m l. number_in 8 l then (λ n l. Some (took (make k m n) l)))))
    (λ x. CountedFits 1 (key x) × NumberFits 8 (one x) × NumberFits 8 (two x))
three_laws {A} make key one two eta beta = record { forth = forth; back = λ l a rest b e. back.says l (took a rest) b e }
  where
    write : A → List ℕ
    write x = name (key x) ++ (number 8 (one x) ++ (number 8 (two x) ++ []))

    read : List ℕ → Option (Took A)
    read l = counted_in 1 l then (λ k l. number_in 8 l then (λ m l. number_in 8 l then (λ n l. Some (took (make k m n) l))))

    Ok : A → Type 0
    Ok x = CountedFits 1 (key x) × NumberFits 8 (one x) × NumberFits 8 (two x)

    forth : (x : A) (l : List ℕ) → Ok x → read (write x ++ l) ≡ Some (took x l)
    forth x l ok =
        ap read (append_assoc (name (key x)) (number 8 (one x) ++ (number 8 (two x) ++ [])) l)
        ∙ then_forth (counted_laws 1) (key x) (number 8 (one x) ++ (number 8 (two x) ++ l)) _ _ ok.0
        (then_forth (number_laws 8) (one x) (number 8 (two x) ++ l) _ _ ok.1
        (then_forth (number_laws 8) (two x) l _ _ ok.2 (ap (λ (y : A). Some (took y l)) (eta x))))

    made : (k : List ℕ) (m n : ℕ) (l : List ℕ) → CountedFits 1 k → NumberFits 8 m → NumberFits 8 n → Bytes l → Field write Ok (took (make k m n) l) (name k ++ (number 8 m ++ (number 8 n ++ l)))
    made k m n l hk hm hn b =
        let e = beta k m n in
        rw (e.0, e.1, e.2) (sym (append_assoc (name k) (number 8 m ++ (number 8 n ++ [])) l), (hk, hm, hn), b)

    back : Back (Field write Ok) (λ l. l) read
    back = then_back (counted_laws 1) (λ l. l) _ (λ k hk. then_back (number_laws 8) _ _ (λ m hm. then_back (number_laws 8) _ _ (λ n hn. leaf_back _ _ (λ l b. made k m n l hk hm hn b))))

pub rule_laws : Laws rule rule_in RuleFits
rule_laws = three_laws (λ k m n. record { prefix = k; lasts = m; old_lasts = n }) (λ x. x.prefix) (λ x. x.lasts) (λ x. x.old_lasts) (λ x. refl) (λ k m n. (refl, refl, refl))

pub entry_laws : Laws entry entry_in ShownFits
entry_laws = three_laws (λ k m n. record { key = k; num = m; size = n }) (λ x. x.key) (λ x. x.num) (λ x. x.size) (λ x. refl) (λ k m n. (refl, refl, refl))

-- SEVERAL OF A KIND

many_forth : {A : Type 0} {write : A → List ℕ} {read : List ℕ → Option (Took A)} {Ok : A → Type 0} → Laws write read Ok → (xs : List A) (l : List ℕ) → Each Ok xs → many_in read (length xs) (many write xs ++ l) ≡ Some (took xs l)
unfolding many many_in
many_forth laws [] l ok = refl
many_forth {write = write} {read} laws (x ∷ xs) l ok =
    rw append_assoc (then_forth laws x (many write xs ++ l) _ _ ok.0 (ap (λ o. o then (λ xs l. Some (took (x ∷ xs) l))) (many_forth laws xs l ok.1)))

many_back : {A : Type 0} {write : A → List ℕ} {read : List ℕ → Option (Took A)} {Ok : A → Type 0} → Laws write read Ok → (n : ℕ) (l : List ℕ) (xs : List A) (rest : List ℕ) → Bytes l → many_in read n l ≡ Some (took xs rest) →
    (l ≡ many write xs ++ rest) × ((length xs ≡ n) × Each Ok xs) × Bytes rest
unfolding many many_in
many_back {A} {write} {Ok = Ok} laws zero l xs rest b e =
    let s : took [] l ≡ took xs rest = cc in
    let xs_is : [] ≡ xs = ap (λ (t : Took (List A)). t.value) s in
    let rest_is : l ≡ rest = ap (λ (t : Took (List A)). t.rest) s in
    (rest_is ∙ ap (λ (ys : List A). many write ys ++ rest) xs_is, (ap length (sym xs_is), subst (λ (ys : List A). Each Ok ys) xs_is tt), subst (λ (x : List ℕ). Bytes x) rest_is b)
many_back {A} {write} {read} {Ok} laws (suc n) l xs rest b e =
    let t = then_some (read l) _ (took xs rest) e in
    let x = t.0.value in
    let u = then_some (many_in read n t.0.rest) _ (took xs rest) t.2 in
    let ys = u.0.value in
    let first = laws.back l x t.0.rest b t.1 in
    let more = many_back laws n t.0.rest ys u.0.rest first.2 u.1 in
    let s : took (x ∷ ys) u.0.rest ≡ took xs rest = cc u.2 in
    let xs_is : x ∷ ys ≡ xs = ap (λ (t : Took (List A)). t.value) s in
    let rest_is : u.0.rest ≡ rest = ap (λ (t : Took (List A)). t.rest) s in (
      first.0 ∙ ap (λ (k : List ℕ). write x ++ k) more.0 ∙ sym (append_assoc (write x) (many write ys) u.0.rest)
          ∙ ap (λ (k : List ℕ). (write x ++ many write ys) ++ k) rest_is ∙ ap (λ (zs : List A). many write zs ++ rest) xs_is,
      (ap length (sym xs_is) ∙ ap suc more.1.0, subst (λ (zs : List A). Each Ok zs) xs_is (first.1, more.1.1)),
      subst (λ (k : List ℕ). Bytes k) rest_is more.2,
    )

pub many_laws : {A : Type 0} {write : A → List ℕ} {read : List ℕ → Option (Took A)} {Ok : A → Type 0} → Laws write read Ok → (n : ℕ) → Laws (many write) (many_in read n) (λ xs. (length xs ≡ n) × Each Ok xs)
many_laws {write = write} {read} laws n = record {
  forth = λ xs l ok. ap (λ (m : ℕ). many_in read m (many write xs ++ l)) (sym ok.0) ∙ many_forth laws xs l ok.1;
  back = many_back laws n;
}

-- just n of a kind are those that are read, and no other bytes
pub all_written : {A : Type 0} {write : A → List ℕ} {read : List ℕ → Option (Took A)} {Ok : A → Type 0} → Laws write read Ok → (n : ℕ) (l : List ℕ) → Bytes l → are_many read n l ≡ true →
    (l ≡ many write (all_in read n l)) × (length (all_in read n l) ≡ n) × Each Ok (all_in read n l)
all_written {A} {write} {read} {Ok} laws n l b h = go (many_in read n l) refl h
  where
    go : (o : Option (Took (List A))) → many_in read n l ≡ o → whole o ≡ true → (l ≡ many write (listed o)) × (length (listed o) ≡ n) × Each Ok (listed o)
    go None e h = let z : ◌≡◌ {A = ℕ} 0 1 = cc in absurd (omega arith)
    go (Some t) e h =
        let k = many_back laws n l t.value t.rest b e in
        let none : t.rest ≡ [] = nil_from_length t.rest (grind (arith, nat_tests, h)) in
        (k.0 ∙ ap (λ (r : List ℕ). many write t.value ++ r) none ∙ append-nil (many write t.value), k.1.0, k.1.1)
