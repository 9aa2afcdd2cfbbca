-- A deed on a sound memory: where it turns the blocks and the lists into those of another heap, the memory afterwards is sound for
-- that heap.
use Rattle.std.specs.Prelude.{ℕ, ◌≡◌}
use Rattle.definition.specs.Calls.{Heap, Refusal, no_list, not_live, no_region, Answer, refused, granted}
use Rattle.script.specs.Memory.{Memory}
use Rattle.script.specs.Script.{Script, ok, no, run}
use Rattle.plans.specs.Deeds.{Plan, after}
use Rattle.armour.specs.Row.{Sound}

-- the refusals' numbers
abbrev pub number : Refusal → ℕ
number no_list = 1
number not_live = 3
number no_region = 4

-- T4: the script does what the definition answers
pub record Grants (n c : ℕ) (m : Memory) (s : Script Plan) (v : ℕ) (g : Heap) : Type 0 where
  pub plan : Plan
  pub gives : run m s ≡ ok plan
  pub answer : plan.answer ≡ v
  pub sound : Sound n c (after m plan) g

abbrev pub Meets : ℕ → ℕ → Memory → Script Plan → Answer → Type 0
Meets n c m s (refused w) = run m s ≡ no (number w)
Meets n c m s (granted v g) = Grants n c m s v g
