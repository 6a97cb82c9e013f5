-- The laws of lines.
use Rattle.std.proofs.Common.{◌≡◌, ℕ, ◌+◌, List, length, Some, None, Option, sym, ap, ◌∙◌, subst, arith}
use Rattle.meaning.specs.Rooms.{Call, Reply}
use Rattle.lines.specs.Fields.{Took, ◌then◌, number_in}
use Rattle.lines.specs.Calls.{call_bytes, line_of, fields_in}
use Rattle.lines.specs.Fits.{NumberFits}
use Rattle.lines.specs.Order.{tag_of}
use Rattle.lines.specs.Replies.{Tagged, tagged, reply_bytes, reply_in}
use Rattle.lines.proofs.Laws.{then_some, number_laws}
use Rattle.line_laws.specs.Stated.{CallsAreRead, CallsWereWritten, AnswersAreRead, AnswersWereWritten}
use Rattle.line_laws.proofs.Heads.{line_forth, line_back, head_on}
use Rattle.line_laws.proofs.CallsBack as calls
use Rattle.line_laws.proofs.AnswersBack as answers

abbrev behind_call : ℕ → List ℕ → Option Call
behind_call tag l = number_in 1 l then fields_in

pub calls_are_read : CallsAreRead
calls_are_read tag c ht ok = head_on (λ h l. fields_in h.kind l) (line_of tag (call_bytes c)) ∙ line_forth behind_call tag (call_bytes c) ht ok.1 ∙ (calls.call_forth c ok.0).reads

pub calls_were_written : CallsWereWritten
calls_were_written l c b e =
    let line = line_back behind_call l c b (sym (head_on (λ h l. fields_in h.kind l) l) ∙ e) in
    let t = then_some (number_in 1 line.body) fields_in c line.reads in
    let k = (number_laws 1).back line.body t.0.value t.0.rest line.bytes t.1 in
    let c_is = (calls.call_back t.0.value).says t.0.rest c k.2 t.2 in
    let body : line.body ≡ call_bytes c = k.0 ∙ sym c_is.0 in
    (line.is ∙ ap (λ (x : List ℕ). line_of (tag_of l) x) body, line.tag_fits, (c_is.1, subst (λ (x : List ℕ). NumberFits 4 (4 + length x)) body line.length_fits))

abbrev rest : ℕ → List ℕ → Option Tagged
rest tag l = number_in 1 l then (λ kind l. tagged tag (reply_in kind l))

tag_read : (tag : ℕ) (r : Reply) (l : List ℕ) → (number_in 1 l then reply_in) ≡ Some r → rest tag l ≡ Some (record { tag = tag; reply = r })
tag_read tag r l e =
    let t = then_some (number_in 1 l) reply_in r e in
    ap (λ (o : Option (Took ℕ)). o then (λ kind l. tagged tag (reply_in kind l))) t.1 ∙ ap (tagged tag) t.2

tag_some : (tag : ℕ) (o : Option Reply) (t : Tagged) → tagged tag o ≡ Some t → (tag ≡ t.tag) × (o ≡ Some t.reply)
tag_some tag None t e = let z : ◌≡◌ {A = ℕ} 0 1 = cc in absurd (omega arith)
tag_some tag (Some r) t e =
    let same : record { tag = tag; reply = r } ≡ t = cc in
    (ap (λ (t : Tagged). t.tag) same, ap (λ (t : Tagged). Some t.reply) same)

pub answers_are_read : AnswersAreRead
answers_are_read tag r ht ok = head_on (λ h l. tagged h.tag (reply_in h.kind l)) (line_of tag (reply_bytes r)) ∙ line_forth rest tag (reply_bytes r) ht ok.1 ∙ tag_read tag r (reply_bytes r) (answers.answer_forth r ok.0).reads

pub answers_were_written : AnswersWereWritten
answers_were_written l t b e =
    let line = line_back rest l t b (sym (head_on (λ h l. tagged h.tag (reply_in h.kind l)) l) ∙ e) in
    let u = then_some (number_in 1 line.body) (λ kind x. tagged (tag_of l) (reply_in kind x)) t line.reads in
    let v = tag_some (tag_of l) (reply_in u.0.value u.0.rest) t u.2 in
    let k = (number_laws 1).back line.body u.0.value u.0.rest line.bytes u.1 in
    let r_is = (answers.answer_back u.0.value).says u.0.rest t.reply k.2 v.1 in
    let body : line.body ≡ reply_bytes t.reply = k.0 ∙ sym r_is.0 in (
      line.is ∙ ap (λ (x : List ℕ). line_of (tag_of l) x) body ∙ ap (λ (n : ℕ). line_of n (reply_bytes t.reply)) v.0,
      v.0,
      subst (λ (n : ℕ). NumberFits 4 n) v.0 line.tag_fits,
      (r_is.1, subst (λ (x : List ℕ). NumberFits 4 (4 + length x)) body line.length_fits),
    )
