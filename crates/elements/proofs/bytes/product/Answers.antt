use Rattle.std.proofs.Common.{◌≡◌, ◌+◌, ◌-◌, ◌/◌, ◌^◌, refl, ap, ◌∙◌, arith}
use Rattle.field.specs.Field.{by}
use Rattle.field.proofs.Horner.{by_more, by_all}
use Rattle.elements.proofs.bytes.product.Goals as goal

pub loop-k-init : goal.loop-k-init
unfolding by
loop-k-init c = refl

pub loop-k-preserved : goal.loop-k-preserved
loop-k-preserved c =
    let k = c.loop-k.k in
    let above : 8 - (8 - k) ≡ k = omega arith in
    let this : 7 - (8 - k) ≡ k - 1 = omega arith in
    let more : (8 - k) + 1 ≡ 8 - (k - 1) = omega arith in
    let below : 8 - ((8 - k) + 1) ≡ k - 1 = omega arith in
    let before = c.loop-k.invariant in
    let twice = c.doubled_byte.ensures in
    let step = by_more (8 - k) c.args.c c.args.x (omega arith) in
    cc

pub returns : goal.returns
returns c =
    let e : c.loop-k.k ≡ 0 = omega arith in
    c.loop-k.invariant ∙ ap (λ n. by (8 - n) (c.args.c / 2 ^ n) c.args.x) e ∙ by_all c.args.c c.args.x
