-- Calls: there and back.
use Rattle.std.proofs.Common.{◌≡◌, ℕ, ◌<◌, cond, eqb, List, [], ◌++◌, length, Option, sym, refl, ap, subst, arith}
use Rattle.meaning.specs.Rooms.{Call, MakeRoom, DropRoom, Put, Get, Remove, Look, Versions, Begin, PutPart, Complete, Abort, Hold, SetRules, Tick}
use Rattle.lines.specs.Fields.{◌then◌, number, number_in}
use Rattle.lines.specs.Calls.{call_bytes, fields_in, make_room_in, drop_room_in, put_in, get_in, remove_in, look_in, versions_in, begin_in, part_in, complete_in, abort_in, hold_in, rules_in, time_in, name, name_in, content, content_in, many, rule}
use Rattle.lines.specs.Fits.{FieldsFit, NameFits, ContentFits}
use Rattle.lines.proofs.Laws.{Laws, Back, Forth, go_on, done, then_back, end_back, none_back, kind_back, number_laws, counted_laws, flag_laws, expected_laws, rule_laws, many_laws}

abbrev name_laws : Laws name name_in NameFits
name_laws = counted_laws 1

abbrev content_laws : Laws content content_in ContentFits
content_laws = counted_laws 4

-- by its kind, a call is read off its bytes
pub call_forth : (c : Call) → FieldsFit c → Forth c (call_bytes c) (λ l. number_in 1 l then fields_in)
call_forth (MakeRoom n k) ok = go_on (number_laws 1) 1 _ _ (omega arith) (go_on name_laws n _ _ ok (go_on flag_laws k _ _ tt (done _)))
call_forth (DropRoom n) ok = go_on (number_laws 1) 2 _ _ (omega arith) (go_on name_laws n _ _ ok (done _))
call_forth (Put n k bs x) ok = go_on (number_laws 1) 3 _ _ (omega arith) (go_on name_laws n _ _ ok.0 (go_on name_laws k _ _ ok.1 (go_on expected_laws x _ _ ok.2 (go_on content_laws bs _ _ ok.3 (done _)))))
call_forth (Get n k num from most) ok = go_on (number_laws 1) 4 _ _ (omega arith) (go_on name_laws n _ _ ok.0 (go_on name_laws k _ _ ok.1 (go_on (number_laws 8) num _ _ ok.2 (go_on (number_laws 8) from _ _ ok.3 (go_on (number_laws 4) most _ _ ok.4 (done _))))))
call_forth (Remove n k num) ok = go_on (number_laws 1) 5 _ _ (omega arith) (go_on name_laws n _ _ ok.0 (go_on name_laws k _ _ ok.1 (go_on (number_laws 8) num _ _ ok.2 (done _))))
call_forth (Look n p after most) ok = go_on (number_laws 1) 6 _ _ (omega arith) (go_on name_laws n _ _ ok.0 (go_on name_laws p _ _ ok.1 (go_on name_laws after _ _ ok.2 (go_on (number_laws 2) most _ _ ok.3 (done _)))))
call_forth (Versions n k) ok = go_on (number_laws 1) 7 _ _ (omega arith) (go_on name_laws n _ _ ok.0 (go_on name_laws k _ _ ok.1 (done _)))
call_forth (Begin n k) ok = go_on (number_laws 1) 8 _ _ (omega arith) (go_on name_laws n _ _ ok.0 (go_on name_laws k _ _ ok.1 (done _)))
call_forth (PutPart n u p bs) ok = go_on (number_laws 1) 9 _ _ (omega arith) (go_on name_laws n _ _ ok.0 (go_on (number_laws 8) u _ _ ok.1 (go_on (number_laws 2) p _ _ ok.2 (go_on content_laws bs _ _ ok.3 (done _)))))
call_forth (Complete n u x) ok = go_on (number_laws 1) 10 _ _ (omega arith) (go_on name_laws n _ _ ok.0 (go_on (number_laws 8) u _ _ ok.1 (go_on expected_laws x _ _ ok.2 (done _))))
call_forth (Abort n u) ok = go_on (number_laws 1) 11 _ _ (omega arith) (go_on name_laws n _ _ ok.0 (go_on (number_laws 8) u _ _ ok.1 (done _)))
call_forth (Hold n k num until) ok = go_on (number_laws 1) 12 _ _ (omega arith) (go_on name_laws n _ _ ok.0 (go_on name_laws k _ _ ok.1 (go_on (number_laws 8) num _ _ ok.2 (go_on (number_laws 8) until _ _ ok.3 (done _)))))
call_forth (SetRules n rs) ok = go_on (number_laws 1) 13 _ _ (omega arith) (go_on name_laws n _ _ ok.0 (go_on (number_laws 1) (length rs) _ _ ok.1 (go_on (many_laws rule_laws (length rs)) rs _ _ (refl, ok.2) (done _))))
call_forth (Tick t) ok = go_on (number_laws 1) 14 _ _ (omega arith) (go_on (number_laws 8) t _ _ ok (done _))

-- what is said of a call that was read
abbrev pub Says : Call → List ℕ → Type 0
Says c l = (call_bytes c ≡ l) × FieldsFit c

make_room_back : Back Says (λ l. number 1 1 ++ l) make_room_in
make_room_back = then_back name_laws _ _ (λ n hn. then_back flag_laws _ _ (λ k hk. end_back _ (MakeRoom n k) (refl, hn)))

drop_room_back : Back Says (λ l. number 1 2 ++ l) drop_room_in
drop_room_back = then_back name_laws _ _ (λ n hn. end_back _ (DropRoom n) (refl, hn))

put_back : Back Says (λ l. number 1 3 ++ l) put_in
put_back = then_back name_laws _ _ (λ n hn. then_back name_laws _ _ (λ k hk. then_back expected_laws _ _ (λ x hx. then_back content_laws _ _ (λ bs hbs. end_back _ (Put n k bs x) (refl, (hn, hk, hx, hbs))))))

get_back : Back Says (λ l. number 1 4 ++ l) get_in
get_back = then_back name_laws _ _ (λ n hn. then_back name_laws _ _ (λ k hk. then_back (number_laws 8) _ _ (λ num hnum. then_back (number_laws 8) _ _ (λ from hfrom. then_back (number_laws 4) _ _ (λ most hmost. end_back _ (Get n k num from most) (refl, (hn, hk, hnum, hfrom, hmost)))))))

remove_back : Back Says (λ l. number 1 5 ++ l) remove_in
remove_back = then_back name_laws _ _ (λ n hn. then_back name_laws _ _ (λ k hk. then_back (number_laws 8) _ _ (λ num hnum. end_back _ (Remove n k num) (refl, (hn, hk, hnum)))))

look_back : Back Says (λ l. number 1 6 ++ l) look_in
look_back = then_back name_laws _ _ (λ n hn. then_back name_laws _ _ (λ p hp. then_back name_laws _ _ (λ after hafter. then_back (number_laws 2) _ _ (λ most hmost. end_back _ (Look n p after most) (refl, (hn, hp, hafter, hmost))))))

versions_back : Back Says (λ l. number 1 7 ++ l) versions_in
versions_back = then_back name_laws _ _ (λ n hn. then_back name_laws _ _ (λ k hk. end_back _ (Versions n k) (refl, (hn, hk))))

begin_back : Back Says (λ l. number 1 8 ++ l) begin_in
begin_back = then_back name_laws _ _ (λ n hn. then_back name_laws _ _ (λ k hk. end_back _ (Begin n k) (refl, (hn, hk))))

part_back : Back Says (λ l. number 1 9 ++ l) part_in
part_back = then_back name_laws _ _ (λ n hn. then_back (number_laws 8) _ _ (λ u hu. then_back (number_laws 2) _ _ (λ p hp. then_back content_laws _ _ (λ bs hbs. end_back _ (PutPart n u p bs) (refl, (hn, hu, hp, hbs))))))

complete_back : Back Says (λ l. number 1 10 ++ l) complete_in
complete_back = then_back name_laws _ _ (λ n hn. then_back (number_laws 8) _ _ (λ u hu. then_back expected_laws _ _ (λ x hx. end_back _ (Complete n u x) (refl, (hn, hu, hx)))))

abort_back : Back Says (λ l. number 1 11 ++ l) abort_in
abort_back = then_back name_laws _ _ (λ n hn. then_back (number_laws 8) _ _ (λ u hu. end_back _ (Abort n u) (refl, (hn, hu))))

hold_back : Back Says (λ l. number 1 12 ++ l) hold_in
hold_back = then_back name_laws _ _ (λ n hn. then_back name_laws _ _ (λ k hk. then_back (number_laws 8) _ _ (λ num hnum. then_back (number_laws 8) _ _ (λ until huntil. end_back _ (Hold n k num until) (refl, (hn, hk, hnum, huntil))))))

rules_back : Back Says (λ l. number 1 13 ++ l) rules_in
rules_back = then_back name_laws _ _ (λ n hn. then_back (number_laws 1) _ _ (λ count hc. then_back (many_laws rule_laws count) _ _ (λ rs hrs. end_back _ (SetRules n rs)
    (ap (λ (m : ℕ). number 1 13 ++ (name n ++ (number 1 m ++ (many rule rs ++ [])))) hrs.0, (hn, subst (λ (m : ℕ). m < 256) (sym hrs.0) hc, hrs.1)))))

time_back : Back Says (λ l. number 1 14 ++ l) time_in
time_back = then_back (number_laws 8) _ _ (λ t ht. end_back _ (Tick t) (refl, ht))

of_kind : (k i : ℕ) (p q : List ℕ → Option Call) → Back Says (λ l. number 1 i ++ l) p → Back Says (λ l. number 1 k ++ l) q → Back Says (λ l. number 1 k ++ l) (λ l. cond (eqb k i) (p l) (q l))
of_kind k i p q hp hq = kind_back (λ l. number 1 k ++ l) k i p q (λ e. subst (λ (m : ℕ). Back Says (λ l. number 1 m ++ l) p) (sym e) hp) hq

pub call_back : (k : ℕ) → Back Says (λ l. number 1 k ++ l) (fields_in k)
call_back k =
    of_kind k 1 _ _ make_room_back (of_kind k 2 _ _ drop_room_back (of_kind k 3 _ _ put_back (of_kind k 4 _ _ get_back (
    of_kind k 5 _ _ remove_back (of_kind k 6 _ _ look_back (of_kind k 7 _ _ versions_back (of_kind k 8 _ _ begin_back (
    of_kind k 9 _ _ part_back (of_kind k 10 _ _ complete_back (of_kind k 11 _ _ abort_back (of_kind k 12 _ _ hold_back (
    of_kind k 13 _ _ rules_back (of_kind k 14 _ _ time_back (none_back _))))))))))))))
