use Rattle.std.proofs.Common.{◌≡◌, ℕ, ◌+◌, ◌<◌, ◌≤◌, [], ◌++◌, length, drop, refl, sym, ap, zero-add, rules, ◌∙◌, arith}
use Rattle.std.proofs.lemmas.Bool.Decides.{nat_tests}
use Rattle.lines.specs.Calls.{line_of}
use Rattle.lines.specs.Fields.{number}
use Rattle.fills.specs.Fills.{body_bytes, line_fits}
use Rattle.fills.proofs.Puts.{put_first, puts_line}
use Rattle.fills.proofs.Sizes.{told_some, goes, stays, line_long}
use Rattle.fills.proofs.write_line.Goals as goal

-- no room
pub returns-then-out-total : goal.returns-then-out-total
returns-then-out-total c =
    let out = c.args.out.now in
    let fs = c.args.fields.now in
    let line = line_of c.args.tag (body_bytes fs) in
    let told = told_some (line_fits fs) c.in_ok-total.total (4 + length (body_bytes fs)) c.in_ok-total.ensures in
    let short : length out < length line = omega (arith, line_long c.args.tag (body_bytes fs), told.1) in
    stays (line_fits fs) line out (grind (arith, nat_tests))

pub returns : goal.returns
unfolding line_of
returns c =
    let out = c.args.out.now in
    let fs = c.args.fields.now in
    let body = body_bytes fs in
    let tag = c.args.tag in
    let told = told_some (line_fits fs) c.in_ok-total.total (4 + length body) c.in_ok-total.ensures in
    let long = line_long tag body in
    let room : length (line_of tag body) ≤ length out = omega (arith, told.1) in
    let e : line_of tag body ≡ number 4 c.in_ok-total.total ++ (number 4 tag ++ (body ++ [])) = ap (λ (n : ℕ). number 4 n ++ (number 4 tag ++ (body ++ []))) (sym told.1) in
    let done = puts_line (line_of tag body) _ _ _ _ _ _ _ e refl room c.put_u32.ensures c.put_u32-2.ensures c.put_fields.ensures in
    let after : c.put_fields.new.self.out.now ≡ line_of tag body ++ drop (length (line_of tag body)) out = done.out_is ∙ put_first (line_of tag body) out in
    goes _ _ _ _ _ told.0 room (done.at_is ∙ zero-add (length (line_of tag body))) (search (rules, after))
