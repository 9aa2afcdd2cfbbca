-- A used block lies inside its piece (T7): from its start to the sentinel behind it no grain is a gap, and no other sentinel
-- stands between.
use Rattle.std.specs.Prelude.{ℕ, ◌+◌, ◌≤◌, ◌<◌, List}
use Rattle.definition.specs.Blocks.{Block, last, gap}
use Rattle.invariants.specs.Order.{BlockAt}

-- the list r, which begins at x inside a piece, goes on to a sentinel at `ends`
pub record GoesOn (x : ℕ) (r : List Block) : Type 0 where
  pub ends : ℕ
  pub low : x ≤ ends
  pub sentinel : BlockAt ends last x r
  pub given : (y : ℕ) → y < ends → BlockAt y gap x r → ⊥
  pub one : (y : ℕ) → y < ends → BlockAt y last x r → ⊥

-- the sentinel of a used block's piece
pub record InPiece (x s : ℕ) (xs : List Block) : Type 0 where
  pub ends : ℕ
  pub behind : x + s ≤ ends
  pub sentinel : BlockAt ends last 0 xs
  pub given : (y : ℕ) → x ≤ y → y < ends → BlockAt y gap 0 xs → ⊥
  pub one : (y : ℕ) → x ≤ y → y < ends → BlockAt y last 0 xs → ⊥
