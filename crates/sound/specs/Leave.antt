-- Leaving what is not needed, in memory: what `leave_script` plans turns a memory into one for the definition's `leave`.
use Rattle.std.specs.Prelude.{ℕ, ◌+◌, ◌-◌, ◌≡◌, List, ◌++◌}
use Rattle.choice.specs.Choice.{if_eq}
use Rattle.class.specs.Class.{list_of}
use Rattle.definition.specs.Lists.{Lists}
use Rattle.definition.specs.Calls.{Heap}
use Rattle.script.specs.Memory.{Memory, Size, Before, Next, Prev, Live, Table, none, root, Write, apply, latest}
use Rattle.sound.specs.Row.{Row}
use Rattle.sound.specs.Strung.{Strung}
use Rattle.sound.specs.Plans.{whole_writes, split_writes}
use Rattle.sound.specs.Relists.{NotIn}
use Rattle.sound.specs.Links.{push_writes}

-- the writes, where the memory before was m
abbrev pub rest_writes : Memory → List Write → ℕ → ℕ → ℕ → List Write
rest_writes m w x t k = (w ++ push_writes (list_of (t - k)) (x + k) (latest w Next (root (list_of (t - k))) (m Next (root (list_of (t - k)))))) ++ split_writes x t k

abbrev pub leave_writes : Memory → List Write → ℕ → ℕ → ℕ → List Write
leave_writes m w x t k = if_eq k t (w ++ whole_writes x t) (rest_writes m w x t k)

-- what they leave: u is the memory afterwards
pub record LeavesIn (m : Memory) (f : Lists) (u : Memory) (g : Heap) : Type 0 where
  pub row : Row (u Size) (u Before) 0 none g.blocks
  pub strung : Strung u g.lists
  pub quiet : (y : ℕ) → (y ≡ none → ⊥) → NotIn f y → NotIn g.lists y → u Prev y ≡ m Prev y
  pub live : u Live ≡ m Live
  pub table : u Table ≡ m Table

abbrev pub Leaves : Memory → Lists → List Write → Heap → Type 0
Leaves m f w g = LeavesIn m f (apply m w) g
