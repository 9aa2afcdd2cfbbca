-- `copy::move_ascending` meets its contract: the grains have moved, then the half grain behind them. Assumes nothing.
use native.Mathlib.Omega.{arith}
use mathlib.Core.Path.{refl}
use Rattle.copy.specs.Moved.{ascends_part, then_behind}
use Rattle.copy.proofs.move_ascending.Goals as goal

pub grains_ascending-requires : goal.grains_ascending-requires
grains_ascending-requires c =
    (ascends_part _ _ _ _ (omega arith) c.requires.0, omega arith, omega arith)

pub returns : goal.returns
returns c =
    then_behind c.requires.0 refl refl (omega arith) c.grains_ascending.ensures c.last_half.ensures
