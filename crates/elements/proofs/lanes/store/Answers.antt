use Rattle.std.proofs.Common.{◌≡◌, ◌+◌, ◌-◌, ◌++◌, length, take, drop, ap, ◌∙◌, arith, length-drop, length-take}
use lib.Lanes.{put_chunk}
use Rattle.std.proofs.lemmas.Simd.{put_chunk_whole}
use Rattle.std.proofs.lemmas.Slice.{take-put_mid}
use Rattle.elements.proofs.lanes.store.Goals as goal

pub returns : goal.returns
returns c =
    let at = c.args.at in
    let out = c.args.out.now in
    let v = c.args.v in
    let part = take (at + 32 - at) (drop at out) in
    let lv : length v ≡ 32 = c.fits-v.0 in
    let lp : length part ≡ length v = simp (length-take, length-drop) (omega arith) in
    let e : put_chunk 0 part v ≡ v = put_chunk_whole part v lp in
    take-put_mid at (at + 32 - at) out (put_chunk 0 part v) (at + 32) (omega (arith, ap length e)) (omega arith) ∙ ap (λ l. take at out ++ l) e
