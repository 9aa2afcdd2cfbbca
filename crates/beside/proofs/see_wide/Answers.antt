-- `beside::see_wide`: each return is one step of the script.
use native.Mathlib.Omega.{arith}
use mathlib.Core.Path.{◌∙◌}
use Rattle.lent.proofs.TagWords.{count_fits}
use Rattle.beside.specs.Owns.{wide_dead, wide_short, wide_below, wide_torn, wide_live}
use Rattle.beside.proofs.see_wide.Goals as goal

pub returns-then-flags_of-ne-LARGE : goal.returns-then-flags_of-ne-LARGE
returns-then-flags_of-ne-LARGE c l g =
    let s = c.args in
    wide_dead s.tagged.now.arena.now l s.tagged.now.tags.now g s.x s.tag c.flags_of.result c.flags_of.ensures c.if-flags_of-ne-LARGE.true

pub returns-then-p-lt2 : goal.returns-then-p-lt2
returns-then-p-lt2 c l g =
    let s = c.args in
    wide_short s.tagged.now.arena.now l s.tagged.now.tags.now g s.x s.tag c.flags_of.result c.flags_of.ensures c.count-p.result c.count-p.ensures c.if-flags_of-ne-LARGE.false c.if-p-lt2.true

pub returns-then-x-p : goal.returns-then-x-p
returns-then-x-p c l g =
    let s = c.args in
    wide_below s.tagged.now.arena.now l s.tagged.now.tags.now g s.x s.tag c.flags_of.result c.flags_of.ensures c.count-p.result c.count-p.ensures c.if-flags_of-ne-LARGE.false c.if-p-lt2.false c.if-x-p.true

pub returns-then-flags_of-ne-START : goal.returns-then-flags_of-ne-START
returns-then-flags_of-ne-START c l g =
    let s = c.args in
    wide_torn s.tagged.now.arena.now l s.tagged.now.tags.now g s.x s.tag c.flags_of.result c.flags_of.ensures c.count-p.result c.count-p.ensures c.if-flags_of-ne-LARGE.false c.if-p-lt2.false c.if-x-p.false
    c.tag-first.result c.flags_of-2.result c.tag-first.ensures c.flags_of-2.ensures c.if-flags_of-ne-START.true

pub see_size-requires : goal.see_size-requires
see_size-requires c =
    (omega (arith, c.requires), omega (arith, c.count.ensures, count_fits c.tag-first.result (omega arith)))

pub returns : goal.returns
returns c l g =
    let s = c.args in
    wide_live s.tagged.now.arena.now l s.tagged.now.tags.now g s.x s.tag c.flags_of.result c.flags_of.ensures c.count-p.result c.count-p.ensures c.if-flags_of-ne-LARGE.false c.if-p-lt2.false c.if-x-p.false
    c.tag-first.result c.flags_of-2.result c.tag-first.ensures c.flags_of-2.ensures c.count.result c.count.ensures c.if-flags_of-ne-START.false
    ∙ c.see_size.ensures l s.tagged.now.tags.now g
