-- The length and the tag of a line.
use Rattle.std.proofs.Common.{◌≡◌, ℕ, suc, ◌+◌, Bool, true, false, cond, eqb, ltb, List, ◌++◌, length, Some, None, Option, sym, refl, ap, ◌∙◌, subst, arith}
use Rattle.std.proofs.lemmas.List.{append-nil}
use Rattle.std.proofs.lemmas.Bool.Decides.{nat_tests}
use Rattle.lines.specs.Fields.{Took, ◌then◌, number, number_in}
use Rattle.lines.specs.Calls.{line_of, Head, head_in}
use Rattle.lines.specs.Fits.{Bytes, NumberFits}
use Rattle.lines.specs.Order.{tag_of}
use Rattle.lines.proofs.Laws.{then_some, then_forth, number_laws, value_number}

-- a line, read on behind its tag
abbrev pub line_in : {B : Type 0} → (ℕ → List ℕ → Option B) → List ℕ → Option B
line_in f l = number_in 4 l then (λ n l. cond (eqb n (length l)) (number_in 4 l then f) None)

pub line_is : (tag : ℕ) (body : List ℕ) → line_of tag body ≡ number 4 (4 + length body) ++ (number 4 tag ++ body)
unfolding line_of
line_is tag body = ap (λ (l : List ℕ). number 4 (4 + length body) ++ (number 4 tag ++ l)) (append-nil body)

pub line_forth : {B : Type 0} (f : ℕ → List ℕ → Option B) (tag : ℕ) (body : List ℕ) → NumberFits 4 tag → NumberFits 4 (4 + length body) → line_in f (line_of tag body) ≡ f tag body
line_forth {B} f tag body ht hl =
    let right : eqb (4 + length body) (length (number 4 tag ++ body)) ≡ true = grind (arith, nat_tests) in
    ap (line_in f) (line_is tag body)
    ∙ then_forth (number_laws 4) (4 + length body) (number 4 tag ++ body) (λ n l. cond (eqb n (length l)) (number_in 4 l then f) None) (f tag body) hl
    (ap (λ (b : Bool). cond b (number_in 4 (number 4 tag ++ body) then f) None) right ∙ then_forth (number_laws 4) tag body f (f tag body) ht refl)

-- what a line that is read comes to
pub record Line {B : Type 0} (f : ℕ → List ℕ → Option B) (l : List ℕ) (b : B) : Type 0 where
  pub body : List ℕ
  pub is : l ≡ line_of (tag_of l) body
  pub tag_fits : NumberFits 4 (tag_of l)
  pub length_fits : NumberFits 4 (4 + length body)
  pub bytes : Bytes body
  pub reads : f (tag_of l) body ≡ Some b

test_some : {A : Type 0} (t : Bool) (o : Option A) (a : A) → cond t o None ≡ Some a → (t ≡ true) × (o ≡ Some a)
test_some true o a e = (refl, e)
test_some false o a e = let z : ◌≡◌ {A = ℕ} 0 1 = cc in absurd (omega arith)

-- the tag of a line that is written so
tag_is : (n tag : ℕ) (body : List ℕ) → NumberFits 4 tag → tag_of (number 4 n ++ (number 4 tag ++ body)) ≡ tag
tag_is n tag body h =
    let long : ltb (length (number 4 n ++ (number 4 tag ++ body))) 8 ≡ false = grind (arith, nat_tests) in
    rw long (value_number 4 tag body h)

four : (n : ℕ) → suc (suc (suc (suc n))) ≡ 4 + n
four n = omega arith

pub line_back : {B : Type 0} (f : ℕ → List ℕ → Option B) (l : List ℕ) (b : B) → Bytes l → line_in f l ≡ Some b → Line f l b
line_back {B} f l b bs e =
    let t = then_some (number_in 4 l) (λ n l. cond (eqb n (length l)) (number_in 4 l then f) None) b e in
    let n = t.0.value in
    let l₁ = t.0.rest in
    let k = (number_laws 4).back l n l₁ bs t.1 in
    let u = test_some (eqb n (length l₁)) (number_in 4 l₁ then f) b t.2 in
    let v = then_some (number_in 4 l₁) f b u.1 in
    let tag = v.0.value in
    let body = v.0.rest in
    let m = (number_laws 4).back l₁ tag body k.2 v.1 in
    let right : n ≡ length l₁ = grind (arith, nat_tests, u.0) in
    let long : n ≡ 4 + length body = right ∙ ap length m.0 ∙ four (length body) in
    let whole : l ≡ number 4 (4 + length body) ++ (number 4 tag ++ body) = k.0 ∙ ap (λ (x : List ℕ). number 4 n ++ x) m.0 ∙ ap (λ (j : ℕ). number 4 j ++ (number 4 tag ++ body)) long in
    let tag_as : tag_of l ≡ tag = ap tag_of whole ∙ tag_is (4 + length body) tag body m.1 in
    record {
      body = body;
      is = whole ∙ sym (line_is tag body) ∙ ap (λ (j : ℕ). line_of j body) (sym tag_as);
      tag_fits = subst (λ (j : ℕ). NumberFits 4 j) (sym tag_as) m.1;
      length_fits = subst (λ (j : ℕ). NumberFits 4 j) long k.1;
      bytes = m.2;
      reads = ap (λ (j : ℕ). f j body) tag_as ∙ v.2;
    }

-- a kind behind a tag
abbrev kind_in : {B : Type 0} → (Head → List ℕ → Option B) → ℕ → List ℕ → Option B
kind_in f tag l = number_in 1 l then (λ kind l. f (record { tag = tag; kind = kind }) l)

abbrev head : ℕ → List ℕ → Option (Took Head)
head tag l = kind_in (λ h l. Some (record { value = h; rest = l })) tag l

-- a line is read on behind its head as behind its tag and its kind
pub head_on : {B : Type 0} (f : Head → List ℕ → Option B) (l : List ℕ) → (head_in l then f) ≡ line_in (kind_in f) l
head_on {B} f l = go (number_in 4 l)
  where
    kinds : (tag : ℕ) (o : Option (Took ℕ)) → ((o then (λ kind l. Some (record { value = record { tag = tag; kind = kind }; rest = l }))) then f) ≡ (o then (λ kind l. f (record { tag = tag; kind = kind }) l))
    kinds tag None = refl
    kinds tag (Some t) = refl

    tested : (b : Bool) (o : Option (Took ℕ)) → (cond b (o then head) None then f) ≡ cond b (o then kind_in f) None
    tested false o = refl
    tested true None = refl
    tested true (Some t) = kinds t.value (number_in 1 t.rest)

    go : (o : Option (Took ℕ)) → ((o then (λ n l. cond (eqb n (length l)) (number_in 4 l then head) None)) then f) ≡ (o then (λ n l. cond (eqb n (length l)) (number_in 4 l then kind_in f) None))
    go None = refl
    go (Some t) = tested (eqb t.value (length t.rest)) (number_in 4 t.rest)
