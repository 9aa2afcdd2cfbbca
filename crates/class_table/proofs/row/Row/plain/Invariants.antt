-- The class is at most its first size, and that at most the size.
use Rattle.std.proofs.Common.{◌-◌, ◌≤◌}
use Rattle.class_table.proofs.row.Row.plain.Given as goal

abbrev pub invariant-loop-first : goal.invariant-loop-first
invariant-loop-first l = (l.class ≤ l.first) × (32 ≤ l.first) × (l.first ≤ l.size)

abbrev pub decreases-loop-first : goal.decreases-loop-first
decreases-loop-first l = l.size - l.first
