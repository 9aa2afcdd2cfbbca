-- `lent::put_guard`: the two words, one after the other.
use native.Mathlib.Omega.{arith}
use Rattle.lent.proofs.Kept.{next_grains}
use Rattle.lent.proofs.Shown.{grains_below}
use Rattle.lent.proofs.put_guard.Goals as goal

pub guard_next-requires : goal.guard_next-requires
guard_next-requires c = omega (arith, c.requires, grains_below c.args.a.now c.well_formed.0.0)

pub guard_prev-requires : goal.guard_prev-requires
guard_prev-requires c =
    omega (arith, c.requires, grains_below c.args.a.now c.well_formed.0.0)

pub put_prev-requires : goal.put_prev-requires
put_prev-requires c =
    rw c.put_next.ensures (next_grains c.args.a.now c.args.x c.guard_next.result c.args.x c.requires)
