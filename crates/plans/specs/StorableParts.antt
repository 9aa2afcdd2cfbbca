-- A deed that keeps within bounds writes only what can be stored; and what the checks tell of the bounds of its parts.
use Rattle.std.specs.Prelude.{ℕ, ◌*◌, ◌≤◌, ◌<◌, List, [], ◌∷◌, ◌++◌}
use Rattle.script.specs.Memory.{Memory}
use Rattle.tags.specs.Each.{Each}
use Rattle.chains.specs.Closed.{Bounds, Ready}
use Rattle.plans.specs.Deeds.{Deed}
use Rattle.plans.specs.Storable.{Storable}

-- all of them are less than n
abbrev pub Below : ℕ → List ℕ → Type 0
Below n [] = Unit {0}
Below n (x ∷ l) = (x < n) × Below n l

-- links stand in grains and lead to grains; a head is a word
abbrev pub bounds : ℕ → ℕ → ℕ → Bounds
bounds n c top = record { F = λ y. y < n; L = λ k. k < 16 * c; H = λ v. v < top; B = λ v. v ≤ 1 }

-- a deed that keeps within bounds in the memory m
pub record Bounded (n c top most : ℕ) (m : Memory) (t : Deed) : Type 0 where
  pub steps : Ready (bounds n c top) m (t.early ++ t.late)
  pub guards : Below n t.guards
  pub records : Each (Storable n c top most) t.records
