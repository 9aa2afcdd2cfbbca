-- `beside::free_before`: each return is one step of the script.
use native.Mathlib.Omega.{arith}
use mathlib.Core.Path.{◌∙◌}
use Rattle.beside.specs.Sides.{before_none, before_outside, before_other, before_listed}
use Rattle.beside.proofs.free_before.Goals as goal

pub returns-then-s-lt1 : goal.returns-then-s-lt1
returns-then-s-lt1 c g =
    before_none c.args.heap.now.tagged.arena.now c.args.heap.now.lists.now c.args.heap.now.tagged.tags.now g c.args.x c.args.s c.if-s-lt1.true

pub returns-then-x-s : goal.returns-then-x-s
returns-then-x-s c g =
    before_outside c.args.heap.now.tagged.arena.now c.args.heap.now.lists.now c.args.heap.now.tagged.tags.now g c.args.x c.args.s (omega (arith, c.if-s-lt1.false)) c.if-x-s.true

pub returns-then-tag-free_tag : goal.returns-then-tag-free_tag
returns-then-tag-free_tag c g =
    before_other c.args.heap.now.tagged.arena.now c.args.heap.now.lists.now c.args.heap.now.tagged.tags.now g c.args.x c.args.s (omega (arith, c.if-s-lt1.false)) c.if-x-s.false c.requires.1
    c.tag.result c.free_tag.result (omega arith) c.tag.ensures c.free_tag.ensures c.if-tag-free_tag.true

pub returns : goal.returns
returns c g =
    before_listed c.args.heap.now.tagged.arena.now c.args.heap.now.lists.now c.args.heap.now.tagged.tags.now g c.args.x c.args.s (omega (arith, c.if-s-lt1.false)) c.if-x-s.false c.requires.1
    c.tag.result c.free_tag.result (omega arith) c.tag.ensures c.free_tag.ensures c.if-tag-free_tag.false
    ∙ c.see_listed.ensures g
