-- `copy::move_descending` meets its contract: the half grain at the end has moved, then the grains before it. Assumes nothing.
use native.Mathlib.Omega.{arith}
use mathlib.Core.Path.{refl}
use Rattle.copy.specs.Moved.{then_before}
use Rattle.copy.proofs.move_descending.Goals as goal

pub returns : goal.returns
returns c =
    then_before c.requires.0 refl refl (omega arith) c.last_half.ensures c.grains_descending.ensures
