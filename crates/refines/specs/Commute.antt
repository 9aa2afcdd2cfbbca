-- A block that leaves its list and a step of another block may change places.
use Rattle.std.specs.Prelude.{ℕ, ◌≡◌, List, [], ◌∷◌}
use Rattle.chains.specs.Steps.{Step, leave, enter}

-- the block of a step
abbrev pub block_of : Step → ℕ
block_of (leave k y) = y
block_of (enter k y) = y

-- y is the block of none of them
abbrev pub Absent : ℕ → List Step → Type 0
Absent y [] = Unit {0}
Absent y (s ∷ l) = (block_of s ≡ y → ⊥) × Absent y l
