use Rattle.std.proofs.Common.{◌<◌, length, get_or, arith, rules}
use Rattle.field.specs.Field.{dot}
use Rattle.field.specs.Stripe.{generator}
use Rattle.field.proofs.Horner.{p_is}
use Rattle.elements.proofs.Steps.{byte_more, whole}
use Rattle.elements.proofs.parity.encode_bytes.Goals as goal

pub loop-i-preserved : goal.loop-i-preserved
loop-i-preserved c =
    let i = c.loop-i.i in
    let a = c.args.four.now.w.now in
    let b = c.args.four.now.x.now in
    let c' = c.args.four.now.y.now in
    let d = c.args.four.now.z.now in
    let s = p_is (get_or a i 0) (get_or b i 0) (get_or c' i 0) (get_or d i 0) (search rules) (search rules) (search rules) (search rules) in
    let lp : i < length c.loop-i.p = omega arith in
    let lq : i < length c.loop-i.q = omega arith in
    let la : i < length a = omega arith in (
      byte_more (dot (generator 4)) a b c' d i _ c.loop-i.p lp la c.loop-i.invariant.0 s,
      byte_more (dot (generator 5)) a b c' d i _ c.loop-i.q lq la c.loop-i.invariant.1 c.weighted_byte.ensures,
    )

pub returns : goal.returns
returns c = record {
  p = whole (dot (generator 4)) c.args.four.now.w.now c.args.four.now.x.now c.args.four.now.y.now c.args.four.now.z.now c.loop-i.i c.loop-i.p (omega arith) (omega arith) c.loop-i.invariant.0;
  q = whole (dot (generator 5)) c.args.four.now.w.now c.args.four.now.x.now c.args.four.now.y.now c.args.four.now.z.now c.loop-i.i c.loop-i.q (omega arith) (omega arith) c.loop-i.invariant.1;
}
