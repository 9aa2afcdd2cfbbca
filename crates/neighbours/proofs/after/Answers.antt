-- `neighbours::after`: each return is one case of a link that may have changed.
use mathlib.Core.Path.{◌∙◌, sym}
use Rattle.choice.specs.Choice.{eq_yes, eq_no}
use Rattle.neighbours.proofs.after.Goals as goal

pub returns-then-b-bytes_of : goal.returns-then-b-bytes_of
returns-then-b-bytes_of c = sym (eq_yes _ _ _ _ (c.if-b-bytes_of.true ∙ c.bytes_of.ensures))

pub returns : goal.returns
returns c = sym (eq_no _ _ _ _ (λ e. c.if-b-bytes_of.false (e ∙ sym c.bytes_of.ensures)))
