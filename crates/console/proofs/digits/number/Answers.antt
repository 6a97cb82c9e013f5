use Rattle.std.proofs.Common.{◌≡◌, ◌+◌, ◌-◌, true, false, eqb, length, get_or, drop, Some, ap, ◌∙◌, arith}
use Rattle.std.proofs.lemmas.Bool.Decides.{nat_tests}
use Rattle.std.specs.Char.{is_ascii_digit}
use Rattle.console.specs.Hex.{read_from}
use Rattle.console.proofs.Numbers.{onward, read_more, read_all}
use Rattle.console.proofs.digits.number.Goals as goal

pub loop-d-preserved : goal.loop-d-preserved
loop-d-preserved c =
    let ds = c.args.digits.now in
    let i = c.loop-d.d-index in
    let t : is_ascii_digit (get_or ds i 0) ≡ true = grind (arith, nat_tests) in
    let e : c.in_ok-value.value ≡ get_or ds i 0 - 48 = grind (arith, nat_tests) in
    let v : onward c.loop-d.n c.in_ok-value.value ≡ c.saturating_add-n.result = cc in
    (c.loop-d.invariant.0 ∙ read_more c.loop-d.n ds i c.in_ok-value.value (omega arith) t e ∙ ap (λ k. read_from k (drop (i + 1) ds)) v, omega arith)

pub returns : goal.returns
returns c =
    let ds = c.args.digits.now in
    let s : eqb (length ds) 0 ≡ false = grind (arith, nat_tests) in
    let r : read_from 0 ds ≡ Some c.loop-d.n = c.loop-d.invariant.0 ∙ read_all c.loop-d.n ds c.loop-d.d-index (omega arith) c.loop-d.invariant.1 in
    rw (s, r)
