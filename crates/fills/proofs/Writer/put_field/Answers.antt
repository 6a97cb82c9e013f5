use Rattle.std.proofs.Common.{rules}
use Rattle.fills.proofs.Puts.{puts_as}
use Rattle.fills.proofs.Writer.put_field.Goals as goal

pub returns-in-Expects-Is : goal.returns-in-Expects-Is
returns-in-Expects-Is c = puts_as _ _ _ _ _ _ (search rules) c.requires.room c.put-in-Expects-Is.ensures c.put-in-Expects-Is-2.ensures

pub returns-in-Name : goal.returns-in-Name
returns-in-Name c = puts_as _ _ _ _ _ _ (search rules) c.requires.room c.put-in-Name.ensures c.put-in-Name-2.ensures

pub returns-in-Content : goal.returns-in-Content
returns-in-Content c = puts_as _ _ _ _ _ _ (search rules) c.requires.room c.put_u32-in-Content.ensures c.put-in-Content.ensures
