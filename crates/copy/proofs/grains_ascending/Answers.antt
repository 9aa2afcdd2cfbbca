-- `copy::grains_ascending` meets its contract. The loop's invariant: the first i grains have moved, and nothing else
-- has. Those behind them are as they were, downwards and apart alike, so what is read next is the source's. Assumes nothing.
use native.Mathlib.Omega.{arith}
use mathlib.Core.Path.{◌≡◌, refl}
use Rattle.copy.specs.Moved.{moved_none, ascends_part, then_behind}
use Rattle.copy.proofs.grains_ascending.Goals as goal

pub loop-i-init : goal.loop-i-init
loop-i-init c = moved_none _ _ _ _ (omega arith)

pub loop-i-preserved : goal.loop-i-preserved
loop-i-preserved c =
    then_behind (ascends_part _ _ _ _ (omega arith) c.requires.0) refl refl (omega arith) c.loop-i.invariant c.move_grain.ensures

pub returns : goal.returns
returns c =
    let e : c.loop-i.i ≡ c.args.n = omega arith in
    rw (← e) c.loop-i.invariant
