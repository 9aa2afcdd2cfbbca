-- `resize::see_elsewhere`: each return is where the script ends.
use native.Mathlib.Omega.{arith}
use Prim.Native.Nat.{◌-◌, ◌*◌}
use Rattle.std.proofs.lemmas.Result.{err_from_is_err_and}
use Rattle.refusal.specs.Number.{number}
use Rattle.lent.proofs.Shown.{grains_below}
use Rattle.entries.specs.Lent.{memory_in, grains_in}
use Rattle.hand_out.specs.Answers.{taken_of}
use Rattle.resize.specs.Sees.{taken_bad, join_bad, join_found}
use Rattle.resize.proofs.see_elsewhere.Goals as goal

pub returns-in_err-into : goal.returns-in_err-into
returns-in_err-into c q g =
    let h = c.args.heap.now in
    let o = c.args.block in
    let p = err_from_is_err_and c.from_residual.result c.from_residual.ensures.1 in
    rw (p.1, p.2) (taken_bad (memory_in h g) (grains_in h) c.args.asked.length c.args.asked.multiple o.at o.grains (q - 2 * o.at) c.args.after c.args.before (number c.in_err-into.field-0.0) (c.in_err-into.ensures g))

pub overflow_add-block : goal.overflow_add-block
overflow_add-block c = omega (arith, c.requires.1, grains_below c.args.heap.now.tagged.arena.now c.args.heap.now.tagged.sized)

pub overflow_add-before : goal.overflow_add-before
overflow_add-before c = omega (arith, c.requires.1, c.requires.2, grains_below c.args.heap.now.tagged.arena.now c.args.heap.now.tagged.sized)

pub returns-in_err-see_join : goal.returns-in_err-see_join
returns-in_err-see_join c q g =
    let h = c.args.heap.now in
    let o = c.args.block in
    let p = err_from_is_err_and c.from_residual-in_err-see_join.result c.from_residual-in_err-see_join.ensures.1 in
    rw (p.1, p.2) (join_bad (memory_in h g) (grains_in h) c.args.asked.length c.args.asked.multiple o.at o.grains (q - 2 * o.at) c.args.after c.args.before (taken_of c.in_ok-into.into) (c.in_ok-into.ensures g) (number c.in_err-see_join.field-0.0) (c.in_err-see_join.ensures g))

pub returns : goal.returns
returns c q g =
    let h = c.args.heap.now in
    let o = c.args.block in
    join_found (memory_in h g) (grains_in h) c.args.asked.length c.args.asked.multiple o.at o.grains (q - 2 * o.at) c.args.after c.args.before (taken_of c.in_ok-into.into) (c.in_ok-into.ensures g) (c.in_ok-see_join.ensures g)
