-- `lent::is_guarded`: the two words are compared with the guard's.
use native.Mathlib.Omega.{arith}
use Rattle.lent.proofs.Shown.{grains_below}
use Rattle.lent.proofs.is_guarded.Goals as goal

pub guard_next-requires : goal.guard_next-requires
guard_next-requires c = omega (arith, c.requires, grains_below c.args.a.now c.well_formed.0.0)

pub guard_prev-requires : goal.guard_prev-requires
guard_prev-requires c =
    omega (arith, c.requires, grains_below c.args.a.now c.well_formed.0.0)
