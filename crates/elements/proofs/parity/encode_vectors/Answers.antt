use Rattle.std.proofs.Common.{◌≡◌, ◌+◌, ◌*◌, arith}
use lib.Lanes.{chunk}
use Rattle.field.specs.Field.{map4, dot}
use Rattle.field.specs.Stripe.{generator}
use Rattle.elements.proofs.Steps.{lanes_more}
use Rattle.elements.proofs.parity.encode_vectors.Goals as goal

pub loop-i-preserved : goal.loop-i-preserved
loop-i-preserved c =
    let at = c.loop-i.i * 32 in
    let m : (c.loop-i.i + 1) * 32 ≡ at + 32 = omega arith in
    let a = c.args.four.now.w.now in
    let b = c.args.four.now.x.now in
    let c' = c.args.four.now.y.now in
    let d = c.args.four.now.z.now in
    let w = c.load-a.ensures in
    let x = c.load-b.ensures in
    let y = c.load-c.ensures in
    let z = c.load-d.ensures in
    let s = c.summed.ensures in
    let t = c.weighted.ensures in
    let p : c.summed.result ≡ map4 (dot (generator 4)) (chunk at 32 a) (chunk at 32 b) (chunk at 32 c') (chunk at 32 d) = cc in
    let q : c.weighted.result ≡ map4 (dot (generator 5)) (chunk at 32 a) (chunk at 32 b) (chunk at 32 c') (chunk at 32 d) = cc in (
      lanes_more (dot (generator 4)) a b c' d at _ c.loop-i.p c.store.new.out c.summed.result m c.loop-i.invariant.0 p c.store.ensures,
      lanes_more (dot (generator 5)) a b c' d at _ c.loop-i.q c.store-in-loop-i.new.out c.weighted.result m c.loop-i.invariant.1 q c.store-in-loop-i.ensures,
    )
