-- Laying the pieces of a region: their tags are those of the blocks that the definition lays, and their free blocks enter lists.
use Rattle.std.specs.Prelude.{ℕ, ◌-◌, ◌%◌, ◌^◌, ◌≤◌}
use Rattle.class.specs.Class.{list_of}

-- ---- steps

-- the lists of the pieces: of the full ones, and of the last one
pub record Heads (c : ℕ) (P : ℕ → Type 0) (n : ℕ) : Type 0 where
  pub full : 2 ^ c ≤ n → P (list_of (2 ^ c - 1))
  pub short : 2 ≤ n % 2 ^ c → P (list_of (n % 2 ^ c - 1))
