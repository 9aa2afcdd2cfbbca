-- The middle of a row: t grains between l and r, whatever blocks they were, become one block, or a used one and a free one.
use Rattle.std.specs.Prelude.{ℕ, ◌+◌, ◌-◌, ◌≡◌, List}
use Rattle.choice.specs.Choice.{upd}
use Rattle.definition.specs.Blocks.{Block, total}
use Rattle.script.specs.Memory.{free_word, used_word}
use Rattle.sound.specs.Row.{Row, Left, link_l}

pub record Core (sz up : ℕ → ℕ) (l : List Block) (t : ℕ) (r : List Block) : Type 0 where
  pub left : Left sz up l
  pub link : up (total l) ≡ link_l l
  pub before : ℕ
  pub right : Row sz up (total l + t) before r

-- ---- what becomes of it

-- the two fields after the block of t grains at x became one of m and a free one
abbrev pub split_size : (ℕ → ℕ) → ℕ → ℕ → ℕ → ℕ → ℕ
split_size sz x t m = upd (upd sz x (used_word m)) (x + m) (free_word (t - m))

abbrev pub split_before : (ℕ → ℕ) → ℕ → ℕ → ℕ → ℕ → ℕ
split_before up x t m = upd (upd up (x + m) x) (x + t) (x + m)
