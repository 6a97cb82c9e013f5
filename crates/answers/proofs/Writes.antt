-- An answer is written as the fields that it is made of.
use Rattle.std.proofs.Common.{◌≡◌, ℕ, suc, ◌+◌, ◌<◌, ◌≤◌, Bool, true, false, ◌&&◌, ltb, ◌⊎◌, List, [], ◌∷◌, ◌++◌, length, Option, sym, refl, ap, ◌∙◌, subst, inl, inr, arith, length-append, Bor}
use Rattle.std.proofs.lemmas.List.{append-nil}
use Rattle.std.proofs.lemmas.Bool.Decides.{nat_tests, leb_tells}
use Rattle.meaning.specs.Lists.{every}
use Rattle.lines.specs.Calls.{line_of, many, are_many, all_in}
use Rattle.lines.specs.Fields.{number}
use Rattle.lines.specs.declared.order.Refusal.{Refusal}
use Rattle.lines.specs.Turns.{number_of}
use Rattle.lines.specs.Fits.{Bytes, is_name}
use Rattle.lines.proofs.Laws.{all_written, entry_laws}
use Rattle.lines.specs.Replies.{entry, entry_in, reply_bytes}
use Rattle.fills.specs.declared.Field.{Field}
use Rattle.fills.specs.declared.Field.TheVariants.{U8, U16, U64, Name, Content, Plain}
use Rattle.fills.specs.Fills.{body_bytes, line_fits, Added, Wrote}
use Rattle.answers.specs.Says.{fits, says}
use Rattle.answers.specs.declared.Answer.{Answer}
use Rattle.answers.specs.declared.Answer.TheVariants.{No, Yes, Number, Got, List as Listing, Full}

-- these fields are the answer's
pub record Is (fs : List Field) (a : Answer) : Type 0 where
  pub fit : line_fits fs ≡ fits a
  pub body : body_bytes fs ≡ reply_bytes (says a)

pub wrote_as : (fs : List Field) (a b : Answer) (tag : ℕ) (out : List ℕ) (r : Option ℕ) (after : List ℕ) → Is fs b → a ≡ b → Wrote (line_fits fs) (line_of tag (body_bytes fs)) out r after → Wrote (fits a) (line_of tag (reply_bytes (says a))) out r after
wrote_as fs a b tag out r after is e h =
    subst (λ (a : Answer). Wrote (fits a) (line_of tag (reply_bytes (says a))) out r after) (sym e)
    (subst (λ (l : List ℕ). Wrote (fits b) (line_of tag l) out r after) is.body
    (subst (λ (t : Bool). Wrote t (line_of tag (body_bytes fs)) out r after) is.fit h))

pub yes_is : Is (U8 1 ∷ []) Yes
unfolding every many
yes_is = record { fit = refl; body = refl }

pub full_is : Is (U8 5 ∷ []) Full
unfolding every many
full_is = record { fit = refl; body = refl }

pub no_is : (e : Refusal) (k : ℕ) → k ≡ number_of e → Is (U8 0 ∷ U8 k ∷ []) (No e)
unfolding every many
no_is e k h = record { fit = refl; body = ap (λ (n : ℕ). number 1 0 ++ (number 1 n ++ [])) h }

pub number_is : (n : ℕ) → Is (U8 2 ∷ U64 n ∷ []) (Number n)
unfolding every many
number_is n = record { fit = refl; body = refl }

-- the length of a part says nothing that the length of the whole doesn't
whole_says : (m n : ℕ) → m ≤ n → ((ltb m 4294967296 && true) && ltb n 4294967296) ≡ ltb n 4294967296
whole_says m n h = grind (arith, nat_tests)

pub got_is : (n size : ℕ) (bs : Bor (List ℕ)) → Is (U8 3 ∷ U64 n ∷ U64 size ∷ Content bs ∷ []) (Got n size bs)
unfolding every many
got_is n size bs = record { fit = whole_says (length bs.now) _ (omega (arith, ap length (append-nil bs.now))); body = refl }

pub list_is : (n : ℕ) (es : Bor (List ℕ)) → Bytes es.now → are_many entry_in n es.now ≡ true → Is (U8 4 ∷ U16 n ∷ Plain es ∷ []) (Listing n es)
unfolding every many
list_is n es b h =
    let w = all_written entry_laws n es.now b h in
    let body : reply_bytes (says (Listing n es)) ≡ number 1 4 ++ (number 2 n ++ (es.now ++ [])) =
    ap (λ (m : ℕ). number 1 4 ++ (number 2 m ++ (many entry (all_in entry_in n es.now) ++ []))) w.1 ∙ ap (λ (l : List ℕ). number 1 4 ++ (number 2 n ++ (l ++ []))) (sym w.0) in
    record {
      fit = whole_says (length es.now) _ (omega (arith, ap length (append-nil es.now)))
          ∙ sym (ap (λ (t : Bool). t && ltb (4 + length (reply_bytes (says (Listing n es)))) 4294967296) h ∙ ap (λ (l : List ℕ). ltb (4 + length l) 4294967296) body);
      body = sym body;
    }

-- an entry has at most 272 bytes
entry_fits : (m n : ℕ) → (m < 256 → n < 4294967296) → ((ltb m 256 && true) && ltb n 4294967296) ≡ ltb m 256
entry_fits m n h = go (ltb m 256) (leb_tells (suc m) 256)
  where
    go : (t : Bool) → ((t ≡ true) × (m < 256)) ⊎ ((t ≡ false) × (256 < suc m)) → ((t && true) && ltb n 4294967296) ≡ t
    go true (inl p) = let s : n < 4294967296 = h p.1 in grind (arith, nat_tests)
    go true (inr p) = let z : ◌≡◌ {A = ℕ} 0 1 = cc in absurd (omega arith)
    go false p = refl

pub entry_added : (key : Bor (List ℕ)) (m n at : ℕ) (out : List ℕ) (r : Option ℕ) (after : List ℕ) → Added (line_fits (Name key ∷ U64 m ∷ U64 n ∷ [])) at (body_bytes (Name key ∷ U64 m ∷ U64 n ∷ [])) out r after →
    Added (is_name key.now) at (entry (record { key = key.now; num = m; size = n })) out r after
unfolding every many
entry_added key m n at out r after h =
    subst (λ (t : Bool). Added t at (entry (record { key = key.now; num = m; size = n })) out r after)
    (entry_fits (length key.now) _ (λ k. omega (arith, length-append key.now (number 8 m ++ (number 8 n ++ []))))) h
