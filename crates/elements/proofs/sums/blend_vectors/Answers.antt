use Rattle.std.proofs.Common.{◌≡◌, ◌+◌, ◌*◌, arith}
use lib.Lanes.{chunk}
use Rattle.field.specs.Field.{dot, map4, row}
use Rattle.elements.proofs.Steps.{lanes_more}
use Rattle.elements.proofs.sums.blend_vectors.Goals as goal

pub loop-i-preserved : goal.loop-i-preserved
loop-i-preserved g c =
    let F = dot (row g.row.A g.row.B g.row.C g.row.D) in
    let at = c.loop-i.i * 32 in
    let m : (c.loop-i.i + 1) * 32 ≡ at + 32 = omega arith in
    let w = c.args.four.now.w.now in
    let x = c.args.four.now.x.now in
    let y = c.args.four.now.y.now in
    let z = c.args.four.now.z.now in
    let ea = c.load-a.ensures in
    let eb = c.load-b.ensures in
    let ec = c.load-c.ensures in
    let ed = c.load-d.ensures in
    let e = c.blended.ensures in
    let v : c.blended.result ≡ map4 F (chunk at 32 w) (chunk at 32 x) (chunk at 32 y) (chunk at 32 z) = cc in
    lanes_more F w x y z at _ c.loop-i.out c.store.new.out c.blended.result m c.loop-i.invariant v c.store.ensures
