-- The last writes of a plan: the word before a payload that stands at a grain, and the live bits.
use Rattle.std.specs.Prelude.{ℕ, ◌+◌, ◌-◌, ◌/◌, ◌%◌, ◌≡◌, List, [], ◌∷◌}
use Rattle.definition.specs.Lists.{Lists}
use Rattle.definition.specs.Calls.{Heap}
use Rattle.script.specs.Memory.{Memory, Size, Before, Prev, Live, Table, none, Write, apply}
use Rattle.sound.specs.Row.{Row}
use Rattle.sound.specs.Strung.{Strung}
use Rattle.sound.specs.Relists.{NotIn}

-- writes of live bits alone
abbrev pub Lives : List Write → Type 0
Lives [] = Unit {0}
Lives (w ∷ l) = (w.field ≡ Live) × Lives l

pub record Finished (m : Memory) (f : Lists) (u : Memory) (g : Heap) (z d : ℕ) (l : List Write) : Type 0 where
  pub row : Row (u Size) (u Before) 0 none g.blocks
  pub strung : Strung u g.lists
  pub pad : d % 2 ≡ 0 → u Prev (z + d / 2 - 1) ≡ z
  pub quiet : (y : ℕ) → (y ≡ none → ⊥) → NotIn f y → NotIn g.lists y → (d % 2 ≡ 0 → y ≡ z + d / 2 - 1 → ⊥) → u Prev y ≡ m Prev y
  pub live : u Live ≡ apply m l Live
  pub table : u Table ≡ m Table
