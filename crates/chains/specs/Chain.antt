-- One list in memory (`Chain`): it stays while others change, one of its blocks leaves it, a block enters it, and a memory
-- has at most one list under each number.
use Rattle.std.specs.Prelude.{ℕ, ◌≡◌, List, [], ◌∷◌}
use Rattle.script.specs.Memory.{Memory, Next, Prev, Mark}
use Rattle.chains.specs.Links.{Head}

-- after the block y comes l
abbrev pub Tail : (ℕ → ℕ) → (ℕ → ℕ) → ℕ → List ℕ → Type 0
Tail nx pv y [] = nx y ≡ y
Tail nx pv y (z ∷ l) = (nx y ≡ z) × (pv z ≡ y) × Tail nx pv z l

-- list k is l
abbrev pub Chain : Memory → ℕ → List ℕ → Type 0
Chain m k [] = m Mark k ≡ 0
Chain m k (y ∷ l) = (m Mark k ≡ 1) × (m Head k ≡ y) × (m Prev y ≡ y) × Tail (m Next) (m Prev) y l

-- the last and the first of l, or d where l is empty
abbrev pub last_or : ℕ → List ℕ → ℕ
last_or d [] = d
last_or d (z ∷ l) = last_or z l

abbrev pub first_or : ℕ → List ℕ → ℕ
first_or d [] = d
first_or d (z ∷ l) = z
