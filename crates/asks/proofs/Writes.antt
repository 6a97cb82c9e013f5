-- A call is written as the fields that it is made of.
use Rattle.std.proofs.Common.{◌≡◌, ℕ, ◌+◌, ◌≤◌, Bool, true, false, ◌&&◌, ltb, List, [], ◌∷◌, ◌++◌, length, Option, sym, refl, ap, ◌∙◌, subst, arith, length-append, Bor}
use Rattle.std.proofs.lemmas.List.{append-nil}
use Rattle.std.proofs.lemmas.Bool.Decides.{nat_tests}
use Rattle.meaning.specs.Lists.{every}
use Rattle.lines.specs.Calls.{call_bytes, line_of, name, content, many, rule, rule_in, are_many, all_in}
use Rattle.lines.specs.Fields.{number}
use Rattle.lines.specs.Fits.{Bytes, is_name}
use Rattle.lines.specs.Means.{means}
use Rattle.lines.proofs.Laws.{all_written, rule_laws}
use Rattle.lines.specs.declared.calls.Call.{Call}
use Rattle.lines.specs.declared.calls.Call.TheVariants.{Part, Rules}
use Rattle.fills.specs.declared.Field.{Field}
use Rattle.fills.specs.declared.Field.TheVariants.{U8, U16, U64, Name, Content, Plain}
use Rattle.fills.specs.Fills.{body_bytes, line_fits, Wrote}
use Rattle.asks.specs.Short.{fits}

-- these fields are the call's
pub record Is (fs : List Field) (c : Call) : Type 0 where
  pub fit : line_fits fs ≡ fits c
  pub body : body_bytes fs ≡ call_bytes (means c)

-- a call of a kind p is written where only that kind is
pub wrote_as : (p : Call → Bool) (fs : List Field) (a b : Call) (tag : ℕ) (out : List ℕ) (r : Option ℕ) (after : List ℕ) → Is fs b → p b ≡ true → a ≡ b → Wrote (line_fits fs) (line_of tag (body_bytes fs)) out r after → Wrote (p a && fits a) (line_of tag (call_bytes (means a))) out r after
wrote_as p fs a b tag out r after is of e h =
    subst (λ (a : Call). Wrote (p a && fits a) (line_of tag (call_bytes (means a))) out r after) (sym e)
    (subst (λ (t : Bool). Wrote (t && fits b) (line_of tag (call_bytes (means b))) out r after) (sym of)
    (subst (λ (l : List ℕ). Wrote (fits b) (line_of tag l) out r after) is.body
    (subst (λ (t : Bool). Wrote t (line_of tag (body_bytes fs)) out r after) is.fit h)))

-- the length of a part says nothing that the length of the whole doesn't
whole_says : (p q : Bool) (m n : ℕ) → m ≤ n → ((p && (q && (ltb m 4294967296 && true))) && ltb n 4294967296) ≡ ((p && (q && true)) && ltb n 4294967296)
whole_says true true m n h = grind (arith, nat_tests)
whole_says true false m n h = refl
whole_says false q m n h = refl

pub part_is : (room : Bor (List ℕ)) (upload place : ℕ) (bytes : Bor (List ℕ)) → Is (U8 9 ∷ Name room ∷ U64 upload ∷ U16 place ∷ Content bytes ∷ []) (Part room upload place bytes)
unfolding every many
part_is room upload place bytes =
    let bs = bytes.now in
    record { fit = whole_says true (is_name room.now) (length bs) _ (omega (arith, length-append room.now (number 8 upload ++ (number 2 place ++ (content bs ++ []))), ap length (append-nil bs))); body = refl }

pub rules_is : (room : Bor (List ℕ)) (count : ℕ) (rules : Bor (List ℕ)) → Bytes rules.now → are_many rule_in count rules.now ≡ true → Is (U8 13 ∷ Name room ∷ U8 count ∷ Plain rules ∷ []) (Rules room count rules)
unfolding every many
rules_is room count rules b h =
    let w = all_written rule_laws count rules.now b h in
    let front : ℕ → List ℕ → List ℕ = λ m l. number 1 13 ++ (name room.now ++ (number 1 m ++ (l ++ []))) in
    let body : call_bytes (means (Rules room count rules)) ≡ front count rules.now =
    ap (λ (m : ℕ). front m (many rule (all_in rule_in count rules.now))) w.1 ∙ ap (λ (l : List ℕ). front count l) (sym w.0) in
    record {
      fit = whole_says true (is_name room.now) (length rules.now) _ (omega (arith, length-append room.now (number 1 count ++ (rules.now ++ [])), ap length (append-nil rules.now)))
          ∙ sym (ap (λ (t : Bool). (t && (is_name room.now && true)) && ltb (4 + length (call_bytes (means (Rules room count rules)))) 4294967296) h
          ∙ ap (λ (l : List ℕ). (is_name room.now && true) && ltb (4 + length l) 4294967296) body);
      body = sym body;
    }
