-- The entry read is the entry.
use Rattle.std.specs.Prelude.{refl}
use Rattle.table.specs.Table.{entry}
use Rattle.table.proofs.fetch.Goals as goal

pub returns : goal.returns
unfolding entry
returns c = refl
