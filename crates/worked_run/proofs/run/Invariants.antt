-- Each count is at most the rows that were run.
use Rattle.std.proofs.Common.{◌≤◌}
use Rattle.worked_run.proofs.run.Given as goal

abbrev pub invariant-loop-row : goal.invariant-loop-row
invariant-loop-row g l = (l.score.answers ≤ l.row-index) × (l.score.frees ≤ l.row-index)
