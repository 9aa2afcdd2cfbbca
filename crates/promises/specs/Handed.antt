-- T7: what allocate and reallocate hand out. On any slices it lies inside the arena, is aligned, long enough, and can be given
-- back. On slices that stand for a heap it was free, and no other block in use changes.
use Rattle.std.specs.Prelude.{ℕ, ◌*◌, ◌≡◌}
use Rattle.definition.specs.Units.{halves, multiple}
use Rattle.script.specs.Script.{ok}
use Rattle.request.specs.Asked.{InRange}
use Rattle.request.specs.Returned.{Stands}
use Rattle.machine.specs.Machine.{half}
use Rattle.plans.specs.Deeds.{Plan}
use Rattle.plans.specs.Calls.{Reallocate}
use Rattle.lent.specs.Slices.{Slices}
use Rattle.lent.specs.Shifted.{carried_out}
use Rattle.promises.specs.Performs.{LongEnough, outcome}

-- ---- a reallocation that is granted

pub record GrantedResize (S : Slices) (x n a z : ℕ) (T : Slices) : Type 0 where
  pub q : ℕ
  pub plan : Plan
  pub range : InRange n a
  pub there : Stands x a q
  pub long : LongEnough S
  pub outcome_is : outcome S (Reallocate q (halves half n) (multiple half a)) ≡ ok plan
  pub answer : half * plan.answer ≡ z
  pub left_is : T ≡ carried_out S q plan
