-- `lent::tag`: by definition.
use mathlib.Core.Path.{refl}
use Rattle.table.specs.Table.{entry}
use Rattle.lent.proofs.tag.Goals as goal

pub returns : goal.returns
unfolding entry
returns c = refl
