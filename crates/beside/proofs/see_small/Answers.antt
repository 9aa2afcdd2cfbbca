-- `beside::see_small`: each return is one step of the script.
use native.Mathlib.Omega.{arith}
use mathlib.Core.Path.{◌∙◌}
use Rattle.lent.proofs.TagWords.{count_fits}
use Rattle.beside.specs.Owns.{small_dead, small_live}
use Rattle.beside.proofs.see_small.Goals as goal

pub returns-then-flags_of : goal.returns-then-flags_of
returns-then-flags_of c l g =
    let s = c.args in
    small_dead s.tagged.now.arena.now l s.tagged.now.tags.now g s.x c.tag-tag.result c.flags_of.result c.tag-tag.ensures c.flags_of.ensures c.if-flags_of.true

pub see_size-requires : goal.see_size-requires
see_size-requires c =
    (c.requires, omega (arith, c.count.ensures, count_fits c.tag-tag.result (omega arith)))

pub returns : goal.returns
returns c l g =
    let s = c.args in
    small_live s.tagged.now.arena.now l s.tagged.now.tags.now g s.x c.tag-tag.result c.flags_of.result c.tag-tag.ensures c.flags_of.ensures c.count.result c.count.ensures c.if-flags_of.false
    ∙ c.see_size.ensures l s.tagged.now.tags.now g
