-- `beside::see_after`: each return is one step of the script.
use native.Mathlib.Omega.{arith}
use mathlib.Core.Path.{◌∙◌}
use mathlib.Core.Bool.{true, false}
use Rattle.choice.specs.Says.{says_yes, says_no}
use Rattle.beside.specs.Sides.{after_outside, after_free, after_used}
use Rattle.beside.proofs.see_after.Goals as goal

pub returns-then-grain_count-y : goal.returns-then-grain_count-y
returns-then-grain_count-y c g =
    after_outside c.args.heap.now.tagged.arena.now c.args.heap.now.lists.now c.args.heap.now.tagged.tags.now g c.args.y (omega (arith, c.grain_count.ensures, c.if-grain_count-y.true))

pub returns-then-flags_of : goal.returns-then-flags_of
returns-then-flags_of c g =
    after_free c.args.heap.now.tagged.arena.now c.args.heap.now.lists.now c.args.heap.now.tagged.tags.now g c.args.y (omega (arith, c.grain_count.ensures, c.if-grain_count-y.false)) c.tag-tag.result c.flags_of.result c.tag-tag.ensures c.flags_of.ensures c.if-flags_of.true
    ∙ c.free_after.ensures g

pub returns-then-not-is_busy : goal.returns-then-not-is_busy
returns-then-not-is_busy c g =
    after_used c.args.heap.now.tagged.arena.now c.args.heap.now.lists.now c.args.heap.now.tagged.tags.now g c.args.y (omega (arith, c.grain_count.ensures, c.if-grain_count-y.false)) c.tag-tag.result c.flags_of.result c.tag-tag.ensures c.flags_of.ensures c.if-flags_of.false
    false (says_no _ c.is_busy.result c.is_busy.ensures c.if-not-is_busy.true)

pub returns : goal.returns
returns c g =
    after_used c.args.heap.now.tagged.arena.now c.args.heap.now.lists.now c.args.heap.now.tagged.tags.now g c.args.y (omega (arith, c.grain_count.ensures, c.if-grain_count-y.false)) c.tag-tag.result c.flags_of.result c.tag-tag.ensures c.flags_of.ensures c.if-flags_of.false
    true (says_yes _ c.is_busy.result c.is_busy.ensures c.if-not-is_busy.false)
