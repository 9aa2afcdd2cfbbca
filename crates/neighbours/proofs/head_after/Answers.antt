-- `neighbours::head_after`: each return is one case of a head that may have changed.
use mathlib.Core.Path.{◌∙◌, sym}
use Rattle.choice.specs.Choice.{eq_yes, eq_no}
use Rattle.neighbours.proofs.head_after.Goals as goal

pub returns-then-n : goal.returns-then-n
returns-then-n c = rw c.in-Some.is (sym (eq_no _ _ _ _ c.if-n.true))

pub returns-then-n-j : goal.returns-then-n-j
returns-then-n-j c = rw c.in-Some.is (sym (eq_yes _ _ _ _ c.if-n.false ∙ eq_no _ _ _ _ c.if-n-j.true))

pub returns : goal.returns
returns c = rw c.in-Some.is (sym (eq_yes _ _ _ _ c.if-n.false ∙ eq_yes _ _ _ _ c.if-n-j.false))
