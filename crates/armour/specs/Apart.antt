-- The block that a reallocation takes elsewhere is no neighbour of the old block: a neighbour with so much room would have been
-- enough in place or downwards. And the two tags beside a used block tell which grains are free there; so where these stay,
-- the free room stays.
use Rattle.std.specs.Prelude.{ℕ, ◌+◌, ◌<◌, ◌≡◌, List, ◌⊎◌}
use Rattle.definition.specs.Blocks.{Block, total, room, past}
use Rattle.definition.specs.Calls.{place, keeps}
use Rattle.invariants.specs.Order.{before}

-- ---- what is taken is no neighbour

-- neither in place nor downwards is there room for p half grains
pub record Cramped (p a : ℕ) (l r : List Block) (s d : ℕ) : Type 0 where
  pub after : s + room r < keeps d p
  pub before : (room l ≡ 0) ⊎ (room l + (s + room r) < keeps (place a (total (past l))) p)
