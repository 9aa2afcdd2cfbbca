-- What the checks tell where the tags are those of blocks (`Row`): which block starts there, whose a payload is, and how many
-- grains are free beside a used block. Links, heads and marks may be anything.
use Rattle.std.specs.Prelude.{ℕ, ◌*◌, ◌<◌, ◌≡◌, List}
use Rattle.class.specs.Class.{list_of}
use Rattle.definition.specs.Blocks.{Block}
use Rattle.script.specs.Memory.{Memory, Next, Prev}
use Rattle.armour.specs.Row.{Free}

-- ---- beside a used block

-- t free grains at y, whose links lead to free blocks; 0 stands for none
pub record Beside (c : ℕ) (m : Memory) (xs : List Block) (y t : ℕ) : Type 0 where
  pub list : (t ≡ 0 → ⊥) → list_of t < 16 * c
  pub next : (t ≡ 0 → ⊥) → Free xs (m Next y)
  pub prev : (t ≡ 0 → ⊥) → Free xs (m Prev y)
