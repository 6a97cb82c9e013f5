use Rattle.std.proofs.Common.{◌≡◌, true, sym, ◌∙◌}
use Rattle.lines.specs.Calls.{are_many}
use Rattle.lines.specs.Replies.{entry_in}
use Rattle.answers.proofs.Writes.{wrote_as, no_is, yes_is, number_is, got_is, list_is, full_is}
use Rattle.answers.proofs.write_answer.Goals as goal

pub returns-in-No : goal.returns-in-No
returns-in-No c = wrote_as _ c.args.answer _ _ _ _ _ (no_is c.in-No.refusal c.into.result c.into.ensures) c.in-No.is c.write_line.ensures

pub returns-in-Yes : goal.returns-in-Yes
returns-in-Yes c = wrote_as _ c.args.answer _ _ _ _ _ yes_is c.in-Yes.is c.write_line-in-Yes.ensures

pub returns-in-Number : goal.returns-in-Number
returns-in-Number c = wrote_as _ c.args.answer _ _ _ _ _ (number_is c.in-Number.number) c.in-Number.is c.write_line-in-Number.ensures

pub returns-in-Got : goal.returns-in-Got
returns-in-Got c = wrote_as _ c.args.answer _ _ _ _ _ (got_is c.in-Got.number c.in-Got.length c.in-Got.bytes) c.in-Got.is c.write_line-in-Got.ensures

pub returns-else-not-are_many : goal.returns-else-not-are_many
returns-else-not-are_many c =
    let are : are_many entry_in c.in-List.count c.in-List.entries.now ≡ true = sym c.are_many.ensures.are ∙ c.if-not-are_many.false in
    wrote_as _ c.args.answer _ _ _ _ _ (list_is c.in-List.count c.in-List.entries c.are_many.ensures.bytes are) c.in-List.is c.write_line-in-List.ensures

pub returns-in-Full : goal.returns-in-Full
returns-in-Full c = wrote_as _ c.args.answer _ _ _ _ _ full_is c.in-Full.is c.write_line-in-Full.ensures
