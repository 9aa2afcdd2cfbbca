-- `lent::put_prev`: the word lies in the arena, and `machine::put` writes it.
use native.Mathlib.Omega.{arith}
use mathlib.Core.Path.{◌∙◌}
use Rattle.lent.proofs.Fields.{put_prev_bytes, grain_inside}
use Rattle.lent.proofs.put_prev.Goals as goal

pub overflow_mul-x : goal.overflow_mul-x
overflow_mul-x c = omega (arith, grain_inside c.args.a.now c.args.x c.requires)

pub overflow_add-x : goal.overflow_add-x
overflow_add-x c = omega (arith, grain_inside c.args.a.now c.args.x c.requires)

pub put-requires : goal.put-requires
put-requires c = omega (arith, grain_inside c.args.a.now c.args.x c.requires)

pub returns : goal.returns
returns c =
    c.put.ensures ∙ put_prev_bytes c.args.a.now c.args.x c.args.v
