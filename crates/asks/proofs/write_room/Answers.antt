use Rattle.std.proofs.Common.{◌≡◌, true, refl, sym, ap, ◌∙◌}
use Rattle.lines.specs.Calls.{are_many, rule_in}
use Rattle.asks.specs.Short.{of_room}
use Rattle.asks.proofs.Writes.{wrote_as, rules_is}
use Rattle.asks.proofs.write_room.Goals as goal

pub returns-else-not-are_many : goal.returns-else-not-are_many
returns-else-not-are_many c =
    let are : are_many rule_in c.in-Rules.count c.in-Rules.rules.now ≡ true = ap (λ n. are_many rule_in n c.in-Rules.rules.now) (sym c.from.ensures) ∙ sym c.are_many.ensures.are ∙ c.if-not-are_many.false in
    wrote_as of_room _ c.args.call _ _ _ _ _ (rules_is c.in-Rules.room c.in-Rules.count c.in-Rules.rules c.are_many.ensures.bytes are) refl c.in-Rules.is c.write_line-in-Rules.ensures
