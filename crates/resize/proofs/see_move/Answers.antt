-- `resize::see_move`: each return is where the script ends.
use native.Mathlib.Omega.{arith}
use Prim.Native.Nat.{◌-◌, ◌*◌}
use mathlib.Core.List.{[]}
use mathlib.Core.Path.{◌∙◌}
use Rattle.std.proofs.lemmas.Result.{err_from_is_err_and}
use Rattle.refusal.specs.Number.{number}
use Rattle.entries.specs.Lent.{memory_in, grains_in}
use Rattle.beside.specs.Holds.{before_holds}
use Rattle.resize.specs.Sees.{before_bad, before_none, before_some}
use Rattle.resize.proofs.see_move.Goals as goal

pub returns-in_err-before : goal.returns-in_err-before
returns-in_err-before c q g =
    let h = c.args.heap.now in
    let o = c.args.block in
    let p = err_from_is_err_and c.from_residual.result c.from_residual.ensures.1 in
    rw (p.1, p.2) (before_bad (memory_in h g) (grains_in h) c.args.asked.length c.args.asked.multiple o.at o.grains (q - 2 * o.at) c.args.after (number c.in_err-before.field-0.0) (c.in_err-before.ensures g))

pub returns-then-before-eq0 : goal.returns-then-before-eq0
returns-then-before-eq0 c q g =
    let h = c.args.heap.now in
    let o = c.args.block in
    before_none (memory_in h g) (grains_in h) c.args.asked.length c.args.asked.multiple o.at o.grains (q - 2 * o.at) c.args.after c.in_ok-before.before (c.in_ok-before.ensures g) c.if-before-eq0.true ∙ c.see_elsewhere.ensures q g

pub see_down-requires : goal.see_down-requires
see_down-requires c =
    let h = c.args.heap.now in
    (c.requires.0, c.requires.1, before_holds (memory_in h []) (grains_in h) c.args.block.at c.in_ok-before.before (c.in_ok-before.ensures []) (omega (arith, c.requires.1)))

pub returns : goal.returns
returns c q g =
    let h = c.args.heap.now in
    let o = c.args.block in
    before_some (memory_in h g) (grains_in h) c.args.asked.length c.args.asked.multiple o.at o.grains (q - 2 * o.at) c.args.after c.in_ok-before.before (c.in_ok-before.ensures g) c.if-before-eq0.false ∙ c.see_down.ensures q g
