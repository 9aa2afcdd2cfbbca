-- `resize::see_down`: each return is where the script ends.
use native.Mathlib.Omega.{arith}
use Prim.Native.Nat.{ℕ, ◌+◌, ◌-◌, ◌*◌}
use mathlib.Core.Path.{ap, sym, ◌∙◌}
use Rattle.std.proofs.lemmas.Result.{err_from_is_err_and}
use Rattle.refusal.specs.Number.{number}
use Rattle.script.specs.Script.{run}
use Rattle.machine.specs.Machine.{classes}
use Rattle.plans.specs.Checks.{see_rest}
use Rattle.lent.proofs.Shown.{grains_below}
use Rattle.entries.specs.Lent.{memory_in, grains_in}
use Rattle.resize.specs.Sees.{down_bad, down_found, down_small}
use Rattle.resize.proofs.see_down.Goals as goal

pub overflow_add-all : goal.overflow_add-all
overflow_add-all c = omega (arith, c.requires.1, grains_below c.args.heap.now.tagged.arena.now c.args.heap.now.tagged.sized)

pub overflow_add-all-2 : goal.overflow_add-all-2
overflow_add-all-2 c = omega (arith, c.requires.1, c.requires.2, grains_below c.args.heap.now.tagged.arena.now c.args.heap.now.tagged.sized)

pub keep-keep-requires : goal.keep-keep-requires
keep-keep-requires c = omega (arith, c.requires.1, grains_below c.args.heap.now.tagged.arena.now c.args.heap.now.tagged.sized)

pub returns-in_err-see_rest : goal.returns-in_err-see_rest
returns-in_err-see_rest c q g =
    let h = c.args.heap.now in
    let o = c.args.block in
    let p = err_from_is_err_and c.from_residual.result c.from_residual.ensures.1 in
    rw (p.1, p.2) (down_bad (memory_in h g) (grains_in h) c.args.asked.length c.args.asked.multiple o.at o.grains (q - 2 * o.at) c.args.after c.args.before (omega (arith, c.keep-keep.ensures, c.if-keep-all.true)) (number c.in_err-see_rest.field-0.0)
    (ap (λ (z : ℕ). run (memory_in h g) (see_rest (grains_in h) classes (c.args.before + (o.grains + c.args.after)) z)) (sym c.keep-keep.ensures) ∙ c.in_err-see_rest.ensures g))

pub returns-then-keep-all : goal.returns-then-keep-all
returns-then-keep-all c q g =
    let h = c.args.heap.now in
    let o = c.args.block in
    down_found (memory_in h g) (grains_in h) c.args.asked.length c.args.asked.multiple o.at o.grains (q - 2 * o.at) c.args.after c.args.before (omega (arith, c.keep-keep.ensures, c.if-keep-all.true))
    (ap (λ (z : ℕ). run (memory_in h g) (see_rest (grains_in h) classes (c.args.before + (o.grains + c.args.after)) z)) (sym c.keep-keep.ensures) ∙ c.in_ok-see_rest.ensures g)

pub returns : goal.returns
returns c q g =
    let h = c.args.heap.now in
    let o = c.args.block in
    down_small (memory_in h g) (grains_in h) c.args.asked.length c.args.asked.multiple o.at o.grains (q - 2 * o.at) c.args.after c.args.before (omega (arith, c.keep-keep.ensures, c.if-keep-all.false)) ∙ c.see_elsewhere.ensures q g
