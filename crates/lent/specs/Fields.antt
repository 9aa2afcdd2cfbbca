-- The fields of the memory that slices hold, each as an equation; and a word stored, field by field: one field changes, at one
-- place, and nothing else.
use Rattle.std.specs.Prelude.{ℕ, ◌≡◌}
use Rattle.choice.specs.Choice.{upd}
use Rattle.lent.specs.Slices.{Slices, memory_of}

-- ---- a field

-- from S to T the field f alone changes, to v at p
pub record Becomes (S : Slices) (f p v : ℕ) (T : Slices) : Type 0 where
  pub here : (y : ℕ) → memory_of T f y ≡ upd (memory_of S f) p v y
  pub elsewhere : (g : ℕ) → (f ≡ g → ⊥) → (y : ℕ) → memory_of T g y ≡ memory_of S g y
