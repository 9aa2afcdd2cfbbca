-- Laying the pieces of a region: each piece keeps the memory founded, and so do all of them, as the definition lays them.
use Rattle.std.specs.Prelude.{ℕ, List}
use Rattle.definition.specs.Blocks.{Block, ◌⟨⟩◌, gaps}
use Rattle.definition.specs.Calls.{Laid}
use Rattle.script.specs.Memory.{Memory, Table, Write, apply, Untouched}
use Rattle.script.specs.Script.{Script, Gives, over}
use Rattle.sound.specs.RegionPlan.{Layout}
use Rattle.sound.specs.Founded.{Founded}

-- ---- all pieces

-- a script that lays as the definition does, and leaves the table alone
pub record Lays (n c : ℕ) (m : Memory) (r : List Block) (s : Script Layout) (d : Laid) : Type 0 where
  pub writes : List Write
  pub gives : Gives m s (record { writes = writes; over = d.over })
  pub founded : Founded n c (apply m writes) (d.left ⟨⟩ gaps d.over r) d.lists
  pub table : Untouched Table writes
