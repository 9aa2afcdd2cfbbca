-- reallocate writes only what can be stored, on any memory that a decoder may show, in each of its steps; what it hands out
-- and what it moves are inside the arena.
use Rattle.std.specs.Prelude.{ℕ, ◌+◌, ◌*◌, ◌≤◌}
use Rattle.script.proofs.Script.{inv_bind}
use Rattle.plans.specs.Checks.{see_join}

-- the answer, with its p half grains, is inside; so is what is moved from q, and what it is moved to
pub record Placed (n q p answer moved : ℕ) : Type 0 where
  pub inside : answer + p ≤ 2 * n
  pub from : q + moved ≤ 2 * n
  pub to : answer + moved ≤ 2 * n
