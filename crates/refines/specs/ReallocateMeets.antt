-- T4, reallocate: on a sound memory it does what the definition says, in all four steps.
use Rattle.std.specs.Prelude.{ℕ, ◌≡◌}
use Rattle.definition.specs.Calls.{Heap, Answer, refused, granted}
use Rattle.script.specs.Memory.{Memory}
use Rattle.script.specs.Script.{Script, no, run, Gives}
use Rattle.plans.specs.Deeds.{Deed, plan_of, after}
use Rattle.armour.specs.Row.{Sound}
use Rattle.refines.specs.Sounds.{number}

-- a script that finds a deed, whose plan leaves the memory sound for what the definition grants
pub record Deeds (n c : ℕ) (m : Memory) (s : Script Deed) (v : ℕ) (g : Heap) : Type 0 where
  pub deed : Deed
  pub gives : Gives m s deed
  pub answer : deed.answer ≡ v
  pub sound : Sound n c (after m (plan_of m deed)) g

-- the definition's answer
abbrev pub Finds : ℕ → ℕ → Memory → Script Deed → Answer → Type 0
Finds n c m s (refused w) = run m s ≡ no (number w)
Finds n c m s (granted v g) = Deeds n c m s v g
