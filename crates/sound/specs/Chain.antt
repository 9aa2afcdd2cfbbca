-- The free lists in memory: `nx` is the field Next and `pv` the field Prev. A head is a node like any other, so taking a
-- block out of a list knows no special case. Nodes are grains and roots; a chain ends with none.
use Rattle.std.specs.Prelude.{ℕ, ◌<◌, ◌≡◌, List, [], ◌∷◌}
use Rattle.definition.specs.Lists.{Lists}
use Rattle.invariants.specs.Members.{Mem}
use Rattle.script.specs.Memory.{none, root}

-- from the node n on stands l; w is what the first of l says is before it
abbrev pub Chain : (ℕ → ℕ) → (ℕ → ℕ) → ℕ → ℕ → List ℕ → Type 0
Chain nx pv n w [] = nx n ≡ none
Chain nx pv n w (y ∷ l) = (nx n ≡ y) × (pv y ≡ w) × Chain nx pv y y l

abbrev pub Links : (ℕ → ℕ) → (ℕ → ℕ) → Lists → Type 0
Links nx pv f = (k : ℕ) → Chain nx pv (root k) none (f k)

-- the members are grains of an arena
abbrev pub Real : Lists → Type 0
Real f = (k y : ℕ) → Mem y (f k) → y < none

-- ---- one chain

abbrev pub last_or : ℕ → List ℕ → ℕ
last_or n [] = n
last_or n (z ∷ l) = last_or z l
