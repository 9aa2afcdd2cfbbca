-- `firmheap::following_grains`: at a grain all whole grains follow, inside one none.
use mathlib.Core.Path.{sym}
use Rattle.choice.specs.Choice.{eq_yes, eq_no}
use Rattle.firmheap.proofs.following_grains.Goals as goal

pub returns-then-start-eq0 : goal.returns-then-start-eq0
returns-then-start-eq0 c = sym (eq_yes _ 0 _ _ c.if-start-eq0.true)

pub returns : goal.returns
returns c = sym (eq_no _ 0 _ _ c.if-start-eq0.false)
