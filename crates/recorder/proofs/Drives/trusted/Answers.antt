use Rattle.std.proofs.Common.{rules, arith}
use Rattle.labels.specs.Times.{trusts}
use Rattle.labels.specs.declared.Label.TheVariants.{Missing}
use Rattle.mending.proofs.Mapped.{map_is}
use Rattle.recorder.proofs.Drives.trusted.Goals as goal

pub returns : goal.returns
returns c = map_is trusts Missing (λ p q x y k. search rules) (omega arith) c.map.ensures.items
