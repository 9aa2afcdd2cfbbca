-- `give::apply_region` meets its contract: the writes of the calls, one after the other; none of them changes a length.
-- Assumes nothing.
use native.Mathlib.Omega.{arith}
use Rattle.header.specs.Turned.{grains_few}
use Rattle.give.specs.Given.{last_keep, given}
use Rattle.give.proofs.apply_region.Goals as goal

pub overflow_mul-p : goal.overflow_mul-p
overflow_mul-p c =
    omega (arith, c.requires.layout.full.inside, grains_few c.args.a.now c.well_formed.0.0)

pub overflow_add-p : goal.overflow_add-p
overflow_add-p c =
    omega (arith, c.requires.layout.full.inside, grains_few c.args.a.now c.well_formed.0.0)

pub lay_last-requires : goal.lay_last-requires
lay_last-requires c =
    last_keep _ _ c.lay_full.ensures c.requires.layout.last

pub overflow_add-p-2 : goal.overflow_add-p-2
overflow_add-p-2 c =
    omega (arith, c.requires.layout.end, grains_few c.args.a.now c.well_formed.0.0)

pub returns : goal.returns
returns c =
    let s = c.args in
    given s.a.now s.lists.now s.regions.now s.p _ _ _ _ _ c.lay_full.ensures c.lay_last.ensures c.enter_region.ensures
