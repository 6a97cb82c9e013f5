use Rattle.std.proofs.Common.{◌<◌, length, arith}
use Rattle.field.specs.Field.{dot, row}
use Rattle.elements.proofs.Steps.{byte_more, whole}
use Rattle.elements.proofs.sums.blend_bytes.Goals as goal

pub loop-i-preserved : goal.loop-i-preserved
unfolding dot
loop-i-preserved g c =
    let i = c.loop-i.i in
    let w = c.args.four.now.w.now in
    let x = c.args.four.now.x.now in
    let y = c.args.four.now.y.now in
    let z = c.args.four.now.z.now in
    let ea = c.product.ensures in
    let eb = c.product-in-loop-i.ensures in
    let ec = c.product-in-loop-i-2.ensures in
    let ed = c.product-in-loop-i-3.ensures in
    let lo : i < length c.loop-i.out = omega arith in
    let lw : i < length w = omega arith in
    byte_more (dot (row g.row.A g.row.B g.row.C g.row.D)) w x y z i _ c.loop-i.out lo lw c.loop-i.invariant (cc)

pub returns : goal.returns
returns g c =
    whole (dot (row g.row.A g.row.B g.row.C g.row.D)) c.args.four.now.w.now c.args.four.now.x.now c.args.four.now.y.now c.args.four.now.z.now c.loop-i.i c.loop-i.out (omega arith) (omega arith) c.loop-i.invariant
