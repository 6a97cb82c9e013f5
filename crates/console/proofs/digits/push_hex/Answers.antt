use Rattle.std.proofs.Common.{◌≡◌, ◌/◌, ◌%◌, [], ◌∷◌, ◌++◌, get_or, vec_items, sym, ap, ◌∙◌, append_assoc, append-nil, arith, take_all}
use Rattle.console.specs.Hex.{hexed, digit}
use Rattle.console.proofs.Pairs.{hexed_more}
use Rattle.console.proofs.digits.push_hex.Goals as goal

pub loop-b-init : goal.loop-b-init
unfolding hexed
loop-b-init c = sym (append-nil _)

pub loop-b-preserved : goal.loop-b-preserved
loop-b-preserved c =
    let xs = c.args.bytes.now in
    let i = c.loop-b.b-index in
    let a : vec_items c.push.new.self ≡ vec_items c.loop-b.out ++ (digit (get_or xs i 0 / 16) ∷ []) = c.in_ok-push.ensures.items ∙ ap (λ d. vec_items c.loop-b.out ++ (d ∷ [])) c.to_digit.ensures in
    let b : vec_items c.push-in-loop-b.new.self ≡ vec_items c.push.new.self ++ (digit (get_or xs i 0 % 16) ∷ []) =
    c.in_ok-push-2.ensures.items ∙ ap (λ d. vec_items c.push.new.self ++ (d ∷ [])) c.to_digit-in-loop-b.ensures
    in
    let m = hexed_more xs i (omega arith) in
    rw (b, a, c.loop-b.invariant, m) (simp append_assoc)

pub returns : goal.returns
returns c = rw (sym (take_all c.loop-b.b-index c.args.bytes.now (omega arith))) c.loop-b.invariant
