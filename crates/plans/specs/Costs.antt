-- How many steps on the lists each deed has, with a cost for each: a block that leaves a list costs u, and one that enters
-- costs v. The costs are what a step reads, or what it writes.
use Rattle.std.specs.Prelude.{ℕ, ◌+◌, ◌*◌, ◌≤◌, List, [], ◌∷◌, length}
use Rattle.std.proofs.Common.{arith}
use Rattle.choice.specs.Choice.{eq_case}
use Rattle.definition.specs.Calls.{place, keeps}
use Rattle.script.proofs.Script.{ends_any}
use Rattle.chains.specs.Steps.{Step, leave, enter}
use Rattle.plans.specs.Deeds.{Deed}
use Rattle.plans.specs.Checks.{see_join}
use Rattle.plans.specs.Allocate.{rest_steps, Taken, taken_steps, allocate_deed}

abbrev pub cost : ℕ → ℕ → Step → ℕ
cost u v (leave k y) = u
cost u v (enter k y) = v

abbrev pub costs : ℕ → ℕ → List Step → ℕ
costs u v [] = 0
costs u v (s ∷ l) = cost u v s + costs u v l

-- of all steps of a deed
abbrev pub deed_costs : ℕ → ℕ → Deed → ℕ
deed_costs u v t = costs u v t.early + costs u v t.late

module _ (u v : ℕ) where
  pub rest_costs : (x t k : ℕ) → costs u v (rest_steps x t k) ≤ v
  rest_costs x t k = eq_case (λ (l : List Step). costs u v l ≤ v) k t _ _ (λ _. omega arith) (λ _. omega arith)

  pub taken_costs : (p a : ℕ) (t : Taken) → costs u v (taken_steps p a t) ≤ u + v
  taken_costs p a t = omega (arith, rest_costs t.block t.grains (keeps (place a t.block) p))

  -- ---- of each deed

  pub allocate_costs : (p a : ℕ) (t : Taken) → deed_costs u v (allocate_deed p a t) ≤ u + v
  allocate_costs p a t = omega (arith, taken_costs p a t)

-- ---- reallocate: three blocks leave, and two enter; there is one guard, and eleven other writes

pub record Small (t : Deed) : Type 0 where
  pub steps : (u v : ℕ) → deed_costs u v t ≤ 3 * u + 2 * v
  pub guards : length t.guards ≤ 1
  pub records : length t.records ≤ 11
