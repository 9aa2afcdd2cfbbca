-- `class::map_ceil` meets its contract: the code is the definition, with the highest bit's place for the logarithm.
-- Its sums and shifts lose nothing, since the quotient is from 16 to 32 (`fits`). Assumes nothing.
use native.Mathlib.Omega.{arith}
use Rattle.class.specs.Class.{start_of}
use Rattle.class.specs.Fit.{FitsUp}
use Rattle.class.proofs.Fit.{fits_up}
use Rattle.class.proofs.map_ceil.Goals as goal
use Rattle.class.proofs.map_ceil.Goals.{After-top_bit-f}

fits : (c : After-top_bit-f) → FitsUp c.args.s c.top_bit-f.result
fits c = rw c.top_bit-f.ensures (fits_up c.args.s c.requires.0 c.requires.1)

pub overflow_mul-result : goal.overflow_mul-result
overflow_mul-result c = omega (arith, fits (goal.at.overflow_mul-result c).After-top_bit-f)

pub overflow_shl-result : goal.overflow_shl-result
overflow_shl-result c = omega (arith, fits (goal.at.overflow_shl-result c).After-top_bit-f)

pub overflow_sub-result : goal.overflow_sub-result
overflow_sub-result c = rw (fits (goal.at.overflow_sub-result c).After-top_bit-f).one (fits (goal.at.overflow_sub-result c).After-top_bit-f).some

pub overflow_add-result : goal.overflow_add-result
overflow_add-result c = rw (fits (goal.at.overflow_add-result c).After-top_bit-f).one (omega (arith, fits (goal.at.overflow_add-result c).After-top_bit-f))

pub overflow_shr-result : goal.overflow_shr-result
overflow_shr-result c = omega (arith, fits (goal.at.overflow_shr-result c).After-top_bit-f)

pub overflow_add-result-2 : goal.overflow_add-result-2
overflow_add-result-2 c = rw (fits (goal.at.overflow_add-result-2 c).After-top_bit-f).one (omega (arith, fits (goal.at.overflow_add-result-2 c).After-top_bit-f))

pub overflow_sub-result-2 : goal.overflow_sub-result-2
overflow_sub-result-2 c = rw (fits (goal.at.overflow_sub-result-2 c).After-top_bit-f).one (omega (arith, fits (goal.at.overflow_sub-result-2 c).After-top_bit-f))

pub returns : goal.returns
unfolding start_of
returns c = rw ((fits (goal.at.returns c).After-top_bit-f).one, c.top_bit-f.ensures)
