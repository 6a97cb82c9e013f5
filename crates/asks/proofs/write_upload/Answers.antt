use Rattle.std.proofs.Common.{refl}
use Rattle.asks.specs.Short.{uploads}
use Rattle.asks.proofs.Writes.{wrote_as, part_is}
use Rattle.asks.proofs.write_upload.Goals as goal

pub returns-in-Part : goal.returns-in-Part
returns-in-Part c = wrote_as uploads _ c.args.call _ _ _ _ _ (part_is c.in-Part.room c.in-Part.upload c.in-Part.place c.in-Part.bytes) refl c.in-Part.is c.write_line-in-Part.ensures
