use Rattle.std.proofs.Common.{◌≡◌, map, rules, arith, count_by}
use Rattle.std.proofs.lemmas.List.Folds.{fold-map}
use Rattle.labels.specs.declared.Label.TheVariants.{Missing}
use Rattle.mending.specs.Stretches.{lacks}
use Rattle.mending.proofs.Mapped.{map_is}
use Rattle.mending.proofs.plan_stretch.Goals as goal

pub returns-clause-is : goal.returns-clause-is
returns-clause-is c =
    let fills : c.map-fills.result ≡ map lacks c.args.seen = map_is lacks Missing (λ p q x y k. search rules) (omega arith) c.map-fills.ensures.items in
    let writes : c.count-writes.result ≡ count_by (λ b. b) c.map-fills.result = search rules in
    let same : count_by (λ b. b) (map lacks c.args.seen) ≡ count_by lacks c.args.seen = fold-map _ lacks 0 c.args.seen in
    cc
