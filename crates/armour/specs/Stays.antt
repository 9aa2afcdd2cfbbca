-- Blocks that are in use before a call and after it: no link or guard is written in a grain of theirs, so neither their payload
-- nor their guard changes.
use Rattle.std.specs.Prelude.{ℕ, ◌+◌, ◌≤◌, ◌<◌, List}
use Rattle.definition.specs.Blocks.{Block, used}
use Rattle.invariants.specs.Order.{BlockAt}

-- a grain of a block in use before, and of one in use after
pub record InUse (xs ys : List Block) (y : ℕ) : Type 0 where
  pub x : ℕ
  pub s : ℕ
  pub d : ℕ
  pub was : BlockAt x (used s d) 0 xs
  pub low : x ≤ y
  pub high : y < x + s
  pub z : ℕ
  pub t : ℕ
  pub e : ℕ
  pub is : BlockAt z (used t e) 0 ys
  pub floor : z ≤ y
  pub ceiling : y < z + t
