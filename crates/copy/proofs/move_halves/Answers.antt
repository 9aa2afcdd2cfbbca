-- `copy::move_halves` meets its contract: each way moves the half grains, and where source and target are the same nothing
-- has to move. Assumes nothing.
use native.Mathlib.Omega.{arith}
use mathlib.Core.Logic.{inl, inr}
use Rattle.copy.specs.Moved.{moved_only, moved_nowhere}
use Rattle.copy.proofs.move_halves.Goals as goal

pub move_ascending-requires : goal.move_ascending-requires
move_ascending-requires c = (inl (omega arith), omega arith, omega arith)

pub returns-then-to-from : goal.returns-then-to-from
returns-then-to-from c = moved_only _ _ _ _ _ c.move_ascending.ensures

pub move_ascending-requires-then-from-n : goal.move_ascending-requires-then-from-n
move_ascending-requires-then-from-n c = (inr (omega arith), omega arith, omega arith)

pub returns-then-from-n : goal.returns-then-from-n
returns-then-from-n c = moved_only _ _ _ _ _ c.move_ascending-then-from-n.ensures

pub returns-then-from-to : goal.returns-then-from-to
returns-then-from-to c = moved_only _ _ _ _ _ c.move_descending.ensures

pub returns : goal.returns
returns c = moved_only _ _ _ _ _ (moved_nowhere _ _ _ _ (omega arith))
