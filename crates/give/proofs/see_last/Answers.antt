-- `give::see_last` meets its contract: the last piece of full length is the head of its own list, and any other list hangs on
-- its head. Assumes nothing.
use native.Mathlib.Omega.{arith}
use mathlib.Core.Path.{◌∙◌}
use Rattle.header.specs.Turned.{grains_few}
use Rattle.give.specs.Last.{last_own}
use Rattle.give.proofs.see_last.Goals as goal

pub overflow_mul-full : goal.overflow_mul-full
overflow_mul-full c =
    omega (arith, c.requires.1.inside, c.requires.1.some, grains_few c.args.a.now c.well_formed.0.0)

pub overflow_add-g : goal.overflow_add-g
overflow_add-g c =
    omega (arith, c.requires.1.inside, c.requires.1.some, grains_few c.args.a.now c.well_formed.0.0)

pub bytes_of-last-requires : goal.bytes_of-last-requires
bytes_of-last-requires c =
    omega (arith, c.requires.1.inside, c.requires.1.some, grains_few c.args.a.now c.well_formed.0.0)

pub returns-then-k-list_of : goal.returns-then-k-list_of
returns-then-k-list_of c =
    rw (← c.list_of-k.ensures.0)
    (last_own c.args.a.now c.args.lists.now c.args.g c.args.full c.args.h c.list_of-k.result c.well_formed.0.0 c.requires.1
    (c.if-k-list_of.true ∙ c.list_of.ensures.0) c.bytes_of-last.result c.bytes_of-last.ensures)
