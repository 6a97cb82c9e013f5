use Rattle.std.proofs.Common.{vec_items}
use Rattle.simdrives.specs.Sims.{holds_at}
use Rattle.simdrives.proofs.Undone.{synced_so}
use Rattle.simdrives.proofs.sectors.Sectors.sync.Goals as goal

pub returns : goal.returns
returns c = synced_so (holds_at c.args.self.now) (vec_items c.clear.new.self) (vec_items c.args.self.now.undo) c.clear.ensures.items
