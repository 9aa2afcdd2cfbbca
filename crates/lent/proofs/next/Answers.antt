-- `lent::next`: the word lies in the arena, and `machine::get` reads it.
use native.Mathlib.Omega.{arith}
use mathlib.Core.Path.{◌∙◌}
use Rattle.lent.proofs.Fields.{next_bytes, grain_inside}
use Rattle.lent.proofs.next.Goals as goal

pub overflow_mul-x : goal.overflow_mul-x
overflow_mul-x c = omega (arith, grain_inside c.args.a.now c.args.x c.requires)

pub get-requires : goal.get-requires
get-requires c = omega (arith, grain_inside c.args.a.now c.args.x c.requires)

pub returns : goal.returns
returns c = c.get.ensures ∙ next_bytes c.args.a.now c.args.x
