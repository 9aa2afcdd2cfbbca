-- `Founded`: Sound without the table of regions. So stands the memory while a region's pieces are laid: its blocks and
-- lists are in order, but the table doesn't know the region yet.
use Rattle.std.specs.Prelude.{ℕ, ◌≤◌, ◌≡◌, List}
use Rattle.definition.specs.Blocks.{Block, total}
use Rattle.definition.specs.Lists.{Lists}
use Rattle.invariants.specs.Moves.{Sane}
use Rattle.script.specs.Memory.{Memory, Size, Before, none}
use Rattle.sound.specs.Row.{Row}
use Rattle.sound.specs.Strung.{Strung}
use Rattle.sound.specs.Sound.{Lively, Padded}

pub record Founded (n c : ℕ) (m : Memory) (xs : List Block) (f : Lists) : Type 0 where
  pub heap : Sane c xs f
  pub whole : total xs ≡ n
  pub small : n ≤ none
  pub row : Row (m Size) (m Before) 0 none xs
  pub strung : Strung m f
  pub lively : Lively m xs
  pub padded : Padded m xs
