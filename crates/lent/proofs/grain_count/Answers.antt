-- `lent::grain_count`: by definition.
use mathlib.Core.Path.{refl}
use Rattle.lent.specs.Slices.{grains}
use Rattle.lent.proofs.grain_count.Goals as goal

pub returns : goal.returns
unfolding grains
returns c = refl
