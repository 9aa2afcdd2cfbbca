-- `copy::grains_descending` meets its contract. The loop's invariant: all but the first i grains have moved, and
-- nothing else has. Those before them are as they were, so what is read next is the source's. Assumes nothing.
use Prim.Native.Nat.{◌+◌, ◌*◌, ◌-◌}
use native.Mathlib.Omega.{arith}
use mathlib.Core.Path.{◌≡◌}
use Rattle.copy.specs.Moved.{moved_none, then_before}
use Rattle.copy.proofs.grains_descending.Goals as goal

pub loop-i-init : goal.loop-i-init
loop-i-init c = moved_none _ _ _ _ (omega arith)

pub loop-i-preserved : goal.loop-i-preserved
loop-i-preserved c =
    then_before (omega arith) (omega arith) (omega arith) (omega arith) c.loop-i.invariant c.move_grain.ensures

pub returns : goal.returns
returns c =
    let s = c.args in
    let e : s.from + 32 * c.loop-i.i ≡ s.from = omega arith in
    let f : s.to + 32 * c.loop-i.i ≡ s.to = omega arith in
    let g : 32 * (s.n - c.loop-i.i) ≡ 32 * s.n = omega arith in
    rw (e, f, g) at c.loop-i.invariant
