-- `entries::list_of`: what `class::map_floor` computes is a list.
use native.Mathlib.Omega.{arith}
use Rattle.entries.specs.Sizes.{list_fits}
use Rattle.entries.proofs.list_of.Goals as goal

pub returns : goal.returns
returns c =
    (c.map_floor.ensures, omega (arith, c.map_floor.ensures, list_fits c.args.s c.requires.0 c.requires.1))
