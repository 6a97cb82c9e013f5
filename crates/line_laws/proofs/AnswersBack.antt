-- Answers: there and back.
use Rattle.std.proofs.Common.{◌≡◌, ℕ, ◌<◌, Bool, true, false, cond, eqb, List, [], ◌++◌, length, None, Option, sym, refl, ap, subst, arith}
use Rattle.std.proofs.lemmas.Bool.Decides.{nat_tests}
use Rattle.meaning.specs.Rooms.{Reply, No, Yes, Num, Got, List', Full}
use Rattle.lines.specs.Fields.{◌then◌, number, number_in}
use Rattle.lines.specs.Calls.{many, at_end}
use Rattle.lines.specs.Replies.{entry, reply_bytes, refusal, reply_in, no_in, num_in, got_in, list_in, AnswerFits}
use Rattle.lines.proofs.Laws.{Forth, go_on, done, Back, then_back, end_back, none_back, kind_back, number_laws, counted_laws, entry_laws, many_laws}

-- the number of a refusal is one byte
small : (k : ℕ) → refusal k ≡ true → k < 256
small k h = grind (arith, nat_tests)

no_forth : (k : ℕ) → refusal k ≡ true → Forth (No k) [] (λ l. cond (refusal k) (at_end l (No k)) None)
no_forth k h = record { reads = rw h }

pub answer_forth : (r : Reply) → AnswerFits r → Forth r (reply_bytes r) (λ l. number_in 1 l then reply_in)
answer_forth (No k) ok = go_on (number_laws 1) 0 _ _ (omega arith) (go_on (number_laws 1) k _ _ (small k ok) (no_forth k ok))
answer_forth Yes ok = go_on (number_laws 1) 1 _ _ (omega arith) (done _)
answer_forth (Num n) ok = go_on (number_laws 1) 2 _ _ (omega arith) (go_on (number_laws 8) n _ _ ok (done _))
answer_forth (Got n size bs) ok = go_on (number_laws 1) 3 _ _ (omega arith) (go_on (number_laws 8) n _ _ ok.0 (go_on (number_laws 8) size _ _ ok.1 (go_on (counted_laws 4) bs _ _ ok.2 (done _))))
answer_forth (List' xs) ok = go_on (number_laws 1) 4 _ _ (omega arith) (go_on (number_laws 2) (length xs) _ _ ok.0 (go_on (many_laws entry_laws (length xs)) xs _ _ (refl, ok.1) (done _)))
answer_forth Full ok = go_on (number_laws 1) 5 _ _ (omega arith) (done _)

-- what is said of an answer that was read
abbrev pub Says : Reply → List ℕ → Type 0
Says r l = (reply_bytes r ≡ l) × AnswerFits r

if_back : (w : List ℕ → List ℕ) (t : Bool) (p : List ℕ → Option Reply) → (t ≡ true → Back Says w p) → Back Says w (λ l. cond t (p l) None)
if_back w true p h = h refl
if_back w false p h = none_back w

no_back : Back Says (λ l. number 1 0 ++ l) no_in
no_back = then_back (number_laws 1) _ _ (λ k hk. if_back _ (refusal k) _ (λ h. end_back _ (No k) (refl, h)))

num_back : Back Says (λ l. number 1 2 ++ l) num_in
num_back = then_back (number_laws 8) _ _ (λ n hn. end_back _ (Num n) (refl, hn))

got_back : Back Says (λ l. number 1 3 ++ l) got_in
got_back = then_back (number_laws 8) _ _ (λ n hn. then_back (number_laws 8) _ _ (λ size hs. then_back (counted_laws 4) _ _ (λ bs hb. end_back _ (Got n size bs) (refl, (hn, hs, hb)))))

list_back : Back Says (λ l. number 1 4 ++ l) list_in
list_back = then_back (number_laws 2) _ _ (λ count hc. then_back (many_laws entry_laws count) _ _ (λ xs hxs. end_back _ (List' xs)
    (ap (λ (m : ℕ). number 1 4 ++ (number 2 m ++ (many entry xs ++ []))) hxs.0, (subst (λ (m : ℕ). m < 65536) (sym hxs.0) hc, hxs.1))))

of_kind : (k i : ℕ) (p q : List ℕ → Option Reply) → Back Says (λ l. number 1 i ++ l) p → Back Says (λ l. number 1 k ++ l) q → Back Says (λ l. number 1 k ++ l) (λ l. cond (eqb k i) (p l) (q l))
of_kind k i p q hp hq = kind_back (λ l. number 1 k ++ l) k i p q (λ e. subst (λ (m : ℕ). Back Says (λ l. number 1 m ++ l) p) (sym e) hp) hq

pub answer_back : (k : ℕ) → Back Says (λ l. number 1 k ++ l) (reply_in k)
answer_back k =
    of_kind k 0 _ _ no_back (of_kind k 1 _ _ (end_back _ Yes (refl, tt)) (of_kind k 2 _ _ num_back (of_kind k 3 _ _ got_back
    (of_kind k 4 _ _ list_back (of_kind k 5 _ _ (end_back _ Full (refl, tt)) (none_back _))))))
