-- Lent tables that are long enough (`Ample`): then every write of a plan can be stored, on any memory, damaged or not. So a plan
-- that was not refused stays inside the slices.
use Rattle.std.specs.Prelude.{ℕ, ◌+◌, ◌*◌, ◌≤◌, length}
use Rattle.bits.specs.Map.{map_words}
use Rattle.bits.specs.Map.{lists as list_count}
use Rattle.slices.specs.Decode.{grains}
use Rattle.slices.specs.Slices.{Slices}

-- the tables are long enough for an arena of n grains and c classes
pub record Ample (w c : ℕ) (S : Slices) : Type 0 where
  pub classes : 16 * c ≤ list_count
  pub lists : map_words + list_count ≤ length S.lists
  pub live : 2 * grains w S.arena ≤ 64 * length S.live
