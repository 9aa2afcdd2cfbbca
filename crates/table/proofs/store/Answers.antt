-- The entry written is the entry.
use Rattle.std.specs.Prelude.{refl}
use Rattle.table.specs.Table.{enter}
use Rattle.table.proofs.store.Goals as goal

pub returns : goal.returns
unfolding enter
returns c = refl
