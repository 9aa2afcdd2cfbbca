-- `lent::prev`: the word lies in the arena, and `machine::get` reads it.
use native.Mathlib.Omega.{arith}
use mathlib.Core.Path.{◌∙◌}
use Rattle.lent.proofs.Fields.{prev_bytes, grain_inside}
use Rattle.lent.proofs.prev.Goals as goal

pub overflow_mul-x : goal.overflow_mul-x
overflow_mul-x c = omega (arith, grain_inside c.args.a.now c.args.x c.requires)

pub overflow_add-x : goal.overflow_add-x
overflow_add-x c = omega (arith, grain_inside c.args.a.now c.args.x c.requires)

pub get-requires : goal.get-requires
get-requires c = omega (arith, grain_inside c.args.a.now c.args.x c.requires)

pub returns : goal.returns
returns c = c.get.ensures ∙ prev_bytes c.args.a.now c.args.x
