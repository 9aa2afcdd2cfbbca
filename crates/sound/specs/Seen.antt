-- On a sound memory the checks go through: what a size word says, the facts of a free block and of an entry of its list,
-- and the head of a list. No check refuses here, and each gives what the memory says.
use Rattle.std.specs.Prelude.{ℕ, ◌+◌, ◌*◌, ◌^◌, ◌≤◌, ◌<◌, ◌≡◌}
use Rattle.class.specs.Class.{list_of}
use Rattle.script.specs.Memory.{Memory, Size, Before, free_word}
use Rattle.script.specs.Script.{Gives}
use Rattle.sound.specs.Checks.{must_busy}

-- ---- free blocks

-- what a memory says of the free block of s grains at y, and of the block behind it
pub record FreeFacts (n c : ℕ) (m : Memory) (y s : ℕ) : Type 0 where
  pub word : m Size y ≡ free_word s
  pub some : 1 ≤ s
  pub inside : y + s < n
  pub listed : s < 2 ^ c
  pub list : list_of s < 16 * c
  pub behind : m Before (y + s) ≡ y
  pub busy : Gives m (must_busy (y + s)) (tt {0})
