-- The lists in memory, with their marks. The writes that take a block out of its list, and those that put one at the head
-- of a list, keep them strung.
use Rattle.std.specs.Prelude.{ℕ, ◌≡◌, List, [], ◌∷◌}
use Rattle.definition.specs.Lists.{Lists}
use Rattle.script.specs.Memory.{Memory, Next, Prev, Mark}
use Rattle.sound.specs.Chain.{Links}

-- a list's mark
abbrev pub Marked : ℕ → List ℕ → Type 0
Marked v [] = v ≡ 0
Marked v (x ∷ l) = v ≡ 1

pub record Strung (m : Memory) (f : Lists) : Type 0 where
  pub links : Links (m Next) (m Prev) f
  pub marks : (k : ℕ) → Marked (m Mark k) (f k)
