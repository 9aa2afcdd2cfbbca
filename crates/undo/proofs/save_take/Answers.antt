-- `undo::save_take`: what is left of the block, or nothing.
use mathlib.Core.Path.{sym, ◌∙◌}
use Rattle.choice.specs.Choice.{eq_yes, eq_no}
use Rattle.undo.proofs.save_take.Goals as goal

pub returns-then-p : goal.returns-then-p
returns-then-p c = record { words = c.save.ensures ∙ sym (eq_yes _ _ _ _ c.if-p.true); bytes = λ i h. (c.type_inv.a i).fits }

pub returns : goal.returns
returns c = record { words = c.save-2.ensures ∙ sym (eq_no _ _ _ _ c.if-p.false); bytes = λ i h. (c.type_inv.a i).fits }
