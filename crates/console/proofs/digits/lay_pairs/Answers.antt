use Rattle.std.proofs.Common.{◌≡◌, ◌+◌, ◌*◌, ◌/◌, length, arith, length-take}
use Rattle.std.proofs.lemmas.List.FromFn.{length-map-range_with_len}
use Rattle.console.specs.Hex.{byte_at, unhexed}
use Rattle.console.proofs.Pairs.{laid_more, byte_of_pair}
use Rattle.console.proofs.digits.lay_pairs.Goals as goal

pub loop-i-preserved : goal.loop-i-preserved
loop-i-preserved c =
    let i = c.loop-i.i in
    let ds = c.args.digits.now in
    let l = length-take c.min-n.result c.as_chunks.result.0.now in
    let b = byte_of_pair ds c.min-n.result i (omega arith) (omega arith) in
    let v : 16 * c.digit_value.result + c.digit_value-in-loop-i.result ≡ byte_at ds i = cc in
    rw (v, c.loop-i.invariant) (laid_more ds c.args.line.now i (omega arith) (omega arith))

pub returns : goal.returns
returns c =
    let ds = c.args.digits.now in
    let l = length-take c.min-n.result c.as_chunks.result.0.now in
    let n : length (unhexed ds) ≡ length ds / 2 = length-map-range_with_len (byte_at ds) 0 (length ds / 2) in
    let e : c.loop-i.i ≡ c.min-n.result = omega arith in
    record { count = omega arith; laid = rw e at c.loop-i.invariant }
