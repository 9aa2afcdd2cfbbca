-- The list heads, and the field Next, in which they stand beside the links of the arena: a head is stored in the table of
-- the lists, behind the map. Storing one link changes that one alone.
use Prim.Native.Nat.{ℕ, suc, ◌+◌, ◌-◌, ◌*◌}
use Rattle.std.specs.Prelude.{List}
use Rattle.choice.specs.Choice.{if_le}
use Rattle.table.specs.Table.{entry, enter}
use Rattle.bits.specs.Map.{map_words, lists}
use Rattle.script.specs.Memory.{Next, none}
use Rattle.slices.specs.Decode.{link_of, link_word, head_bytes, top_of, grains}
use Rattle.slices.specs.Arena.{link_at}

-- the head of list k, in the table t; grains have u bytes, and the arena n grains
unfoldable pub head_at : ℕ → ℕ → List ℕ → ℕ → ℕ
head_at u n t k = if_le (suc k) lists (link_of u n (top_of head_bytes) (entry t (map_words + k))) none

-- the table with v stored as the head of list k
unfoldable pub put_head : ℕ → List ℕ → ℕ → ℕ → List ℕ
put_head u t k v = enter t (map_words + k) (link_word u (top_of head_bytes) v)

-- the field Next: roots stand behind all grains
unfoldable pub next_at : ℕ → List ℕ → List ℕ → ℕ → ℕ
next_at w a t y = if_le (suc none) y (head_at (4 * w) (grains w a) t (y - suc none)) (link_at w a Next none y)
