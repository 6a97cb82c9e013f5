use Rattle.std.proofs.Common.{List, rules, refl, subst, ap, ◌∙◌}
use Rattle.std.specs.Iterator.Runs.{ItemsMapTo}
use Rattle.labels.specs.declared.Label.{Label}
use Rattle.recorder.proofs.Looks.{finds}
use Rattle.recorder.proofs.Drives.lowest.Goals as goal

pub returns : goal.returns
returns c =
    let (p, e, m) = c.find_map.ensures.runs in
    let items = subst (λ (ls : List Label). ItemsMapTo p (λ y. y.now) ls) (ap (λ s. s.rest.now) e ∙ c.iter.ensures.rest) (c.iter.ensures.runs p p.seen) in
    finds (λ y. y.now) _ _ (λ x y k. search rules) c.args.self.now.seen c.find_map.result p items (λ a r q k. refl) m
