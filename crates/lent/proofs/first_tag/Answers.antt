-- `lent::first_tag`: flags and count stand so, for each kind of payload.
use native.Mathlib.Omega.{arith}
use mathlib.Core.Path.{ap, sym, ◌∙◌}
use Rattle.choice.specs.Choice.{eq_yes, eq_no}
use Rattle.lent.specs.Slices.{tag_word}
use Rattle.lent.proofs.TagWords.{small_word, large_word}
use Rattle.lent.proofs.first_tag.Goals as goal

pub returns-in-1 : goal.returns-in-1
returns-in-1 c = let s = c.args in sym (ap tag_word (eq_yes s.d 1 _ _ c.in-1.is) ∙ small_word s.s)

pub returns-in-2 : goal.returns-in-2
returns-in-2 c = let s = c.args in sym (ap tag_word (eq_no s.d 1 _ _ (omega (arith, c.in-2.is)) ∙ eq_yes s.d 2 _ _ c.in-2.is) ∙ large_word s.s)

pub returns-in_default : goal.returns-in_default
returns-in_default c =
    let s = c.args in
    c.start_tag.ensures ∙ sym (ap tag_word (eq_no s.d 1 _ _ (omega (arith, c.in_default)) ∙ eq_no s.d 2 _ _ (omega (arith, c.in_default))))
