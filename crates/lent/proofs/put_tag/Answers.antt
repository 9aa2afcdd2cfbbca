-- `lent::put_tag`: by definition.
use mathlib.Core.Path.{refl}
use Rattle.table.specs.Table.{enter}
use Rattle.lent.proofs.put_tag.Goals as goal

pub returns : goal.returns
unfolding enter
returns c = refl
