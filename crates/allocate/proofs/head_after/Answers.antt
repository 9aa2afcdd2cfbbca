-- `allocate::head_after`: each return is one case of the choice.
use mathlib.Core.Path.{sym}
use Rattle.choice.specs.Choice.{eq_yes, eq_no}
use Rattle.allocate.proofs.head_after.Goals as goal

pub returns-then-q-k : goal.returns-then-q-k
returns-then-q-k c = sym (eq_yes c.args.q c.args.k c.args.next c.args.h c.if-q-k.true)

pub returns : goal.returns
returns c = sym (eq_no c.args.q c.args.k c.args.next c.args.h c.if-q-k.false)
