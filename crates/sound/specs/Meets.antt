-- What it means that a script does what a call of the definition says: the same answer, or the refusal's number; and the
-- memory with its writes stands for the heap after the call. A script that meets an answer is never refused with 5.
use Rattle.std.specs.Prelude.{ℕ, ◌≡◌}
use Rattle.definition.specs.Calls.{Heap, Refusal, no_list, not_live, no_region, Answer, refused, granted}
use Rattle.script.specs.Memory.{Memory, apply}
use Rattle.script.specs.Script.{Script, ok, no, run}
use Rattle.sound.specs.Sound.{Sound}
use Rattle.sound.specs.Plans.{Plan}

-- the numbers that a caller sees
abbrev pub number : Refusal → ℕ
number no_list = 1
number not_live = 3
number no_region = 4

pub record Grants (n c : ℕ) (m : Memory) (s : Script Plan) (v : ℕ) (g : Heap) : Type 0 where
  pub plan : Plan
  pub gives : run m s ≡ ok plan
  pub answer : plan.answer ≡ v
  pub sound : Sound n c (apply m plan.writes) g

abbrev pub Meets : ℕ → ℕ → Memory → Script Plan → Answer → Type 0
Meets n c m s (refused w) = run m s ≡ no (number w)
Meets n c m s (granted v g) = Grants n c m s v g
