-- T4, deallocate: on a sound memory it does what the definition says.
use Rattle.std.specs.Prelude.{ℕ, List, ◌∷◌}
use Rattle.definition.specs.Blocks.{Block, used, ◌⟨⟩◌}
use Rattle.definition.specs.Lists.{Lists}
use Rattle.definition.specs.Calls.{Heap}

abbrev pub Here : Lists → List Block → List Block → ℕ → ℕ → Heap
Here f l r s d = record { blocks = l ⟨⟩ used s d ∷ r; lists = f }
