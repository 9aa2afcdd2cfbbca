-- `beside::see_owner`: each return is one step of the script.
use native.Mathlib.Omega.{arith}
use mathlib.Core.Path.{◌∙◌}
use Rattle.beside.specs.Owns.{owner_outside, owner_small_lem, owner_large_lem}
use Rattle.beside.proofs.see_owner.Goals as goal

pub returns-then-grain_count-q : goal.returns-then-grain_count-q
returns-then-grain_count-q c l g =
    let s = c.args in
    owner_outside s.tagged.now.arena.now l s.tagged.now.tags.now g s.q (omega (arith, c.grain_count.ensures, c.if-grain_count-q.true))

pub returns-then-q-eq1 : goal.returns-then-q-eq1
returns-then-q-eq1 c l g =
    let s = c.args in
    owner_small_lem s.tagged.now.arena.now l s.tagged.now.tags.now g s.q (omega (arith, c.grain_count.ensures, c.if-grain_count-q.false)) c.if-q-eq1.true ∙ c.see_small.ensures l g

pub returns : goal.returns
returns c l g =
    let s = c.args in
    owner_large_lem s.tagged.now.arena.now l s.tagged.now.tags.now g s.q (omega (arith, c.grain_count.ensures, c.if-grain_count-q.false)) c.if-q-eq1.false ∙ c.see_large.ensures l g
