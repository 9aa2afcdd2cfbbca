-- `give::see_other` meets its contract: each return is one law of the heads behind the pieces of full length. Assumes nothing.
use native.Mathlib.Omega.{arith}
use mathlib.Core.Path.{sym, ◌∙◌}
use Rattle.choice.specs.Says.{says_yes, says_no}
use Rattle.header.specs.Turned.{grains_few}
use Rattle.give.specs.Last.{last_first, last_unmarked, last_second, last_other}
use Rattle.give.proofs.see_other.Goals as goal

pub returns-then-not-is_marked : goal.returns-then-not-is_marked
returns-then-not-is_marked c =
    last_unmarked c.args.a.now c.args.lists.now c.args.g c.args.full c.args.h c.args.k c.well_formed.0.0 c.requires.1 c.requires.3 c.requires.2
    c.fetch-word.result c.fetch-word.ensures (c.if-word-last.true ∙ c.requires.4) (says_no _ c.is_marked.result c.is_marked.ensures c.if-not-is_marked.true)

pub returns-then-word-last : goal.returns-then-word-last
returns-then-word-last c =
    last_first c.args.a.now c.args.lists.now c.args.g c.args.full c.args.h c.args.k c.well_formed.0.0 c.requires.1 c.requires.3 c.requires.2
    c.fetch-word.result c.fetch-word.ensures (c.if-word-last.true ∙ c.requires.4) (says_yes _ c.is_marked.result c.is_marked.ensures c.if-not-is_marked.false)

pub is_joined-requires : goal.is_joined-requires
is_joined-requires c =
    omega (arith, c.requires.1.inside, grains_few c.args.a.now c.well_formed.0.0)

pub returns-then-is_joined : goal.returns-then-is_joined
returns-then-is_joined c =
    last_second c.args.a.now c.args.lists.now c.args.g c.args.full c.args.h c.args.k c.well_formed.0.0 c.requires.1 c.requires.3 c.requires.2
    c.fetch-word.result c.fetch-word.ensures (says_yes _ c.is_joined.result c.is_joined.ensures c.if-is_joined.true) (λ e. c.if-word-last.false (e ∙ sym c.requires.4))

pub returns : goal.returns
returns c =
    last_other c.args.a.now c.args.lists.now c.args.g c.args.full c.args.h c.args.k c.well_formed.0.0 c.requires.1 c.requires.3 c.requires.2
    c.fetch-word.result c.fetch-word.ensures (says_no _ c.is_joined.result c.is_joined.ensures c.if-is_joined.false) c.see_head.result c.see_head.ensures
