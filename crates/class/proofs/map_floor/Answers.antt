-- `class::map_floor` meets its contract: the code is the definition, with the highest bit's place for the logarithm.
-- Its sums and shifts lose nothing, since the quotient is from 16 to 31 (`fits`). Assumes nothing.
use native.Mathlib.Omega.{arith}
use Rattle.class.specs.Class.{list_of}
use Rattle.class.specs.Fit.{FitsDown}
use Rattle.class.proofs.Fit.{fits_down}
use Rattle.class.proofs.map_floor.Goals as goal
use Rattle.class.proofs.map_floor.Goals.{After-top_bit-f}

fits : (c : After-top_bit-f) → FitsDown c.args.s c.top_bit-f.result
fits c = rw c.top_bit-f.ensures (fits_down c.args.s c.requires.0 c.requires.1)

pub overflow_mul-result : goal.overflow_mul-result
overflow_mul-result c = omega (arith, fits (goal.at.overflow_mul-result c).After-top_bit-f)

pub overflow_shr-result : goal.overflow_shr-result
overflow_shr-result c = omega (arith, fits (goal.at.overflow_shr-result c).After-top_bit-f)

pub overflow_add-result : goal.overflow_add-result
overflow_add-result c = omega (arith, fits (goal.at.overflow_add-result c).After-top_bit-f)

pub returns : goal.returns
unfolding list_of
returns c = rw c.top_bit-f.ensures
