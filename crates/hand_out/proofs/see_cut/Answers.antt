-- `hand_out::see_cut`: the rest can enter its list, or not.
use Prim.Native.Nat.{ℕ}
use native.Mathlib.Omega.{arith}
use mathlib.Core.Path.{ap, sym, ◌∙◌}
use Rattle.std.proofs.lemmas.Result.{err_from_is_err_and}
use Rattle.refusal.specs.Number.{number}
use Rattle.script.specs.Script.{run}
use Rattle.machine.specs.Machine.{classes}
use Rattle.plans.specs.Checks.{see_rest}
use Rattle.lent.proofs.Shown.{grains_below}
use Rattle.entries.specs.Lent.{memory_in, grains_in}
use Rattle.hand_out.specs.Search.{cut_bad, cut_made}
use Rattle.hand_out.proofs.see_cut.Goals as goal

pub keep-requires : goal.keep-requires
keep-requires c =
    omega (arith, c.requires.0, grains_below c.args.heap.now.tagged.arena.now c.args.heap.now.tagged.sized)

pub returns-in_err-see_rest : goal.returns-in_err-see_rest
returns-in_err-see_rest c g =
    let h = c.args.heap.now in
    let f = c.args.found in
    let p = err_from_is_err_and c.from_residual.result c.from_residual.ensures.1 in
    rw (p.1, p.2) (cut_bad h.tagged.arena.now h.lists.now h.tagged.tags.now g c.args.asked.length c.args.asked.multiple f.list f.block f.grains (number c.in_err-see_rest.field-0.0)
    (ap (λ (z : ℕ). run (memory_in h g) (see_rest (grains_in h) classes f.grains z)) (sym c.keep.ensures) ∙ c.in_err-see_rest.ensures g))

pub returns : goal.returns
returns c g =
    let h = c.args.heap.now in
    let f = c.args.found in
    cut_made h.tagged.arena.now h.lists.now h.tagged.tags.now g c.args.asked.length c.args.asked.multiple f.list f.block f.grains
    (ap (λ (z : ℕ). run (memory_in h g) (see_rest (grains_in h) classes f.grains z)) (sym c.keep.ensures) ∙ c.in_ok-see_rest.ensures g)
