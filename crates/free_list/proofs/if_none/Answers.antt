-- `free_list::if_none`: each return is one case of the choice.
use mathlib.Core.Path.{sym}
use Rattle.choice.specs.Choice.{eq_yes, eq_no}
use Rattle.free_list.proofs.if_none.Goals as goal

pub returns-then-x-eq-NONE : goal.returns-then-x-eq-NONE
returns-then-x-eq-NONE c = sym (eq_yes _ _ _ _ c.if-x-eq-NONE.true)

pub returns : goal.returns
returns c = sym (eq_no _ _ _ _ c.if-x-eq-NONE.false)
