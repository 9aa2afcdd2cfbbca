-- A word stored, field by field: in the memory of the slices one field changes, at one place, and nothing else.
use Rattle.std.specs.Prelude.{ℕ, ◌≡◌}
use Rattle.choice.specs.Choice.{upd}
use Rattle.slices.specs.Slices.{Slices, memory_of}

-- from S to T the field f alone changes, to v at p
pub record Becomes (w : ℕ) (S : Slices) (f p v : ℕ) (T : Slices) : Type 0 where
  pub here : (y : ℕ) → memory_of w T f y ≡ upd (memory_of w S f) p v y
  pub elsewhere : (g : ℕ) → (f ≡ g → ⊥) → (y : ℕ) → memory_of w T g y ≡ memory_of w S g y
