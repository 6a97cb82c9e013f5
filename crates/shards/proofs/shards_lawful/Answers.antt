-- The coding of rows by bytes is lawful.
-- Assumes nothing.
use Rattle.shards.proofs.Shards.{lawful_coding}
use Rattle.shards.proofs.shards_lawful.Goals as goal

pub returns : goal.returns
returns c = lawful_coding
