-- `header::count`: by definition.
use mathlib.Core.Path.{refl}
use Rattle.slices.specs.Decode.{grains}
use Rattle.header.proofs.count.Goals as goal

pub returns : goal.returns
unfolding grains
returns c = refl
