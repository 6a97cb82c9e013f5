use Rattle.std.proofs.Common.{◌≡◌, ◌∙◌, length, rules, tests}
use Rattle.std.proofs.lemmas.Iterator.{YieldsList-from_slice}
use Rattle.std.proofs.lemmas.Iterator.Consumers.{YieldsList-from_filter, YieldsList-from_enumerate, count_from_yields_List}
use Rattle.std.specs.List.{filter, enumerate_from}
use Rattle.script.proofs.Weakened.{is_other, others_are}
use Rattle.script.proofs.weak.Weak.others.Goals as goal

pub returns : goal.returns
returns c =
    let d = c.args.drive in
    let ds = c.args.self.now.drives in
    let n : c.count.result ≡ length (filter (is_other d) (enumerate_from 0 ds)) =
    count_from_yields_List c.filter.result c.count.result c.count.ensures.ran
    (YieldsList-from_filter _ (is_other d) (YieldsList-from_enumerate (YieldsList-from_slice ds cc) (cc)) c.filter.ensures.closure (λ x b q k. search (rules, tests)))
    in
    n ∙ others_are d 0 ds
