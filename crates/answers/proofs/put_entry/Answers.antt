use Rattle.answers.proofs.Writes.{entry_added}
use Rattle.answers.proofs.put_entry.Goals as goal

pub returns : goal.returns
returns c = entry_added c.args.shown.key c.args.shown.number c.args.shown.length c.args.at c.args.out.now c.append.result c.append.new.out c.append.ensures
