-- `beside::free_after`: what `see_free` answers is the first step.
use mathlib.Core.Path.{◌∙◌}
use Rattle.std.proofs.lemmas.Result.{err_from_is_err_and}
use Rattle.refusal.specs.Number.{number}
use Rattle.beside.specs.Sides.{after_torn, after_whole}
use Rattle.beside.proofs.free_after.Goals as goal

pub returns-in_err-s : goal.returns-in_err-s
returns-in_err-s c g =
    let h = c.args.heap.now in
    let p = err_from_is_err_and c.from_residual.result c.from_residual.ensures.1 in
    rw (p.1, p.2) (after_torn h.tagged.arena.now h.lists.now h.tagged.tags.now g c.args.y (number c.in_err-s.field-0.0) (c.in_err-s.ensures.seen h.lists.now g))

pub returns : goal.returns
returns c g =
    let h = c.args.heap.now in
    after_whole h.tagged.arena.now h.lists.now h.tagged.tags.now g c.args.y c.in_ok-s.s (c.in_ok-s.ensures.seen h.lists.now g) ∙ c.see_listed.ensures g
