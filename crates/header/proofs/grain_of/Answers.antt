-- `header::grain_of`: the two parts of the turned word fit, since the first has 59 bits.
use mathlib.Core.Path.{refl}
use Rattle.header.specs.Turned.{turned}
use Rattle.header.proofs.grain_of.Goals as goal

pub returns : goal.returns
unfolding turned
returns c = refl
