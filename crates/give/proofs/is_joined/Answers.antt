-- `give::is_joined` meets its contract: the word is the old head, or leads behind g by a number of whole pieces. Assumes
-- nothing.
use native.Mathlib.Omega.{arith}
use Rattle.give.specs.Joined.{joined_head, joined_below, joined_between, joined_start}
use Rattle.give.proofs.is_joined.Goals as goal

pub returns-then-word-h : goal.returns-then-word-h
returns-then-word-h c =
    joined_head c.args.g c.args.full c.args.h c.args.word c.requires c.if-word-h.true

pub returns-then-y-g : goal.returns-then-y-g
returns-then-y-g c =
    joined_below c.args.g c.args.full c.args.h c.args.word c.requires c.if-word-h.false c.grain_of-y.result c.grain_of-y.ensures (omega arith)

pub returns-then-y-g-ne0 : goal.returns-then-y-g-ne0
returns-then-y-g-ne0 c =
    joined_between c.args.g c.args.full c.args.h c.args.word c.requires c.if-word-h.false c.grain_of-y.result c.grain_of-y.ensures c.if-y-g-ne0.true

pub returns : goal.returns
returns c =
    joined_start c.args.g c.args.full c.args.h c.args.word c.requires c.if-word-h.false c.grain_of-y.result c.grain_of-y.ensures (omega arith) c.if-y-g-ne0.false
