-- Reading tags: which block a tag shows, and which tags a block has. Then what the tag after a block's end and the tag
-- before its start say of the free room there.
use Rattle.std.specs.Prelude.{ℕ, ◌+◌, ◌%◌, ◌≤◌, ◌≡◌, ◌⊎◌}
use Rattle.definition.specs.Blocks.{room}
use Rattle.tags.specs.Tag.{flags, START, SMALL}

-- ---- the free room beside a block

-- The flags v and the count u tell the free room b: the flags are k exactly where there is some, and then the count is b.
pub record RoomIs (v u k b : ℕ) : Type 0 where
  pub room : ((v ≡ k) × (u ≡ b) × (1 ≤ b)) ⊎ ((v ≡ k → ⊥) × (b ≡ 0))

-- START without FREE: the first tag of a used block or of a sentinel
abbrev pub Busy : ℕ → Type 0
Busy v = (START ≤ v % flags) × (v % flags ≤ START + SMALL)
