-- `give::list_of` meets its contract: the block of a piece has a list. Assumes nothing.
use Prim.Native.Nat.{◌-◌}
use native.Mathlib.Omega.{arith}
use Rattle.class.proofs.Class.{list_small}
use Rattle.give.proofs.list_of.Goals as goal

pub returns : goal.returns
returns c =
    let k = list_small (c.args.m - 1) (omega (arith, c.requires.0)) 12 (omega (arith, c.requires.1)) in
    (c.map_floor.ensures, omega (arith, k, c.map_floor.ensures))
