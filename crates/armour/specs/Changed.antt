-- The row after one block has given way to another: what is needed for the tags, the table of regions and the guards, once for
-- all calls.
use Rattle.std.specs.Prelude.{ℕ, ◌≡◌, List}
use Rattle.definition.specs.Blocks.{Block, total}
use Rattle.invariants.specs.Order.{out, Ordered}
use Rattle.invariants.specs.Pieces.{pieces, Listed}

-- ---- k of t grains become used, and the rest, if any, free: the blocks do not depend on the lists

pub record Left (n c : ℕ) (ys : List Block) : Type 0 where
  pub order : Ordered out ys
  pub short : Listed c (pieces 0 ys)
  pub whole : total ys ≡ n
