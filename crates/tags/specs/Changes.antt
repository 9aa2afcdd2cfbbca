-- What each change of the blocks does to the tags: the tags of the blocks before it become those of the blocks after it.
use Rattle.std.specs.Prelude.{ℕ, ◌+◌, List}
use Rattle.definition.specs.Blocks.{Block, total}
use Rattle.tags.specs.Tag.{Tagged, TaggedL}
use Rattle.tags.specs.Stamps.{Hollow}

-- ---- k grains between the blocks l and r, whatever blocks they are

pub record Around (t : ℕ → ℕ) (l : List Block) (k : ℕ) (r : List Block) : Type 0 where
  pub left : TaggedL t l
  pub right : Tagged t (total l + k) r

-- ---- s grains of which blocks can be made: those between the first and the last are blank

pub record Core (t : ℕ → ℕ) (l : List Block) (s : ℕ) (r : List Block) : Type 0 where
  pub around : Around t l s r
  pub hollow : Hollow t (total l) s
