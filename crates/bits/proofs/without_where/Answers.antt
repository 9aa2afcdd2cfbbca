-- `bits::without_where` meets its contract: each return is one case of the choice. Assumes nothing.
use mathlib.Core.Path.{sym, ◌∙◌}
use Rattle.choice.specs.Choice.{eq_yes, eq_no}
use Rattle.bits.proofs.without_where.Goals as goal

pub returns-then-w-n : goal.returns-then-w-n
returns-then-w-n c = c.without_bit.ensures ∙ sym (eq_yes _ _ _ _ c.if-w-n.true)

pub returns : goal.returns
returns c = sym (eq_no _ _ _ _ c.if-w-n.false)
