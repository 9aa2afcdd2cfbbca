-- `beside::see_large`: each return is one step of the script.
use native.Mathlib.Omega.{arith}
use mathlib.Core.Path.{◌∙◌}
use Rattle.lent.proofs.TagWords.{count_fits}
use Rattle.beside.specs.Owns.{large_first, large_near, large_wide}
use Rattle.beside.proofs.see_large.Goals as goal

pub returns-then-x-eq0 : goal.returns-then-x-eq0
returns-then-x-eq0 c l g =
    let s = c.args in
    large_first s.tagged.now.arena.now l s.tagged.now.tags.now g s.x c.if-x-eq0.true

pub see_size-requires : goal.see_size-requires
see_size-requires c =
    (omega (arith, c.requires), omega (arith, c.count.ensures, count_fits c.tag-tag.result (omega arith)))

pub returns-then-flags_of : goal.returns-then-flags_of
returns-then-flags_of c l g =
    let s = c.args in
    large_near s.tagged.now.arena.now l s.tagged.now.tags.now g s.x c.tag-tag.result c.flags_of.result c.if-x-eq0.false c.tag-tag.ensures c.flags_of.ensures c.count.result c.count.ensures c.if-flags_of.true
    ∙ c.see_size.ensures l s.tagged.now.tags.now g

pub returns : goal.returns
returns c l g =
    let s = c.args in
    large_wide s.tagged.now.arena.now l s.tagged.now.tags.now g s.x c.tag-tag.result c.flags_of.result c.if-x-eq0.false c.tag-tag.ensures c.flags_of.ensures c.if-flags_of.false
    ∙ c.see_wide.ensures l g
