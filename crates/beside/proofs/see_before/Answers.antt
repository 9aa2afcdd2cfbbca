-- `beside::see_before`: each return is one step of the script.
use native.Mathlib.Omega.{arith}
use mathlib.Core.Path.{◌∙◌}
use Rattle.choice.specs.Says.{says_yes, says_no}
use Rattle.lent.proofs.TagWords.{count_fits}
use Rattle.beside.specs.Sides.{before_first, before_used, before_free}
use Rattle.beside.proofs.see_before.Goals as goal

pub returns-then-x-eq0 : goal.returns-then-x-eq0
returns-then-x-eq0 c g =
    before_first c.args.heap.now.tagged.arena.now c.args.heap.now.lists.now c.args.heap.now.tagged.tags.now g c.args.x c.if-x-eq0.true

pub returns-then-not-has_free : goal.returns-then-not-has_free
returns-then-not-has_free c g =
    before_used c.args.heap.now.tagged.arena.now c.args.heap.now.lists.now c.args.heap.now.tagged.tags.now g c.args.x c.if-x-eq0.false c.tag-tag.result c.tag-tag.ensures (says_no _ c.has_free.result c.has_free.ensures c.if-not-has_free.true)

pub free_before-requires : goal.free_before-requires
free_before-requires c =
    (c.requires, omega (arith, c.count.ensures, count_fits c.tag-tag.result (omega arith)))

pub returns : goal.returns
returns c g =
    before_free c.args.heap.now.tagged.arena.now c.args.heap.now.lists.now c.args.heap.now.tagged.tags.now g c.args.x c.if-x-eq0.false c.tag-tag.result c.tag-tag.ensures (says_yes _ c.has_free.result c.has_free.ensures c.if-not-has_free.false) c.count.result c.count.ensures
    ∙ c.free_before.ensures g
