-- How long the lent tables must be for an arena of so many bytes. A live bit stands for 16 bytes, half a grain, so a word
-- of the live table stands for 1024. The live table has a bit for every byte number up to the arena's length, the length
-- itself among them, so that one test, that a payload is not behind the arena, is the bound of its bit too: that costs at
-- most one word more than the whole grains need.
use Rattle.std.specs.Prelude.{ℕ, ◌+◌, ◌*◌, ◌/◌, ◌≤◌, ◌<◌, length}
use Rattle.std.proofs.Common.{arith}
use Rattle.bits.specs.Map.{map_words}
use Rattle.bits.specs.Map.{lists as list_count}
use Rattle.slices.specs.Decode.{grains}
use Rattle.slices.specs.Slices.{Slices}
use Rattle.slices.specs.Ample.{Ample}

-- the words of live bits for an arena of a bytes
abbrev pub live_length : ℕ → ℕ
live_length a = a / 1024 + 1

-- tables of these lengths, the lists' and the live one, are long enough for an arena of a bytes
pub record LongEnough (a lists live : ℕ) : Type 0 where
  pub heads : map_words + list_count ≤ lists
  pub bits : live_length a ≤ live

-- every byte number up to the arena's length has its bit
pub live_each : (a x : ℕ) → x ≤ a → x / 16 < 64 * live_length a
live_each a x h = omega arith

-- so has each half of a whole grain
pub live_grains : (a : ℕ) → 2 * (a / 32) ≤ 64 * live_length a
live_grains a = omega arith

-- and any table with a bit for each of those is at most one word shorter
pub live_least : (a r : ℕ) → 2 * (a / 32) ≤ 64 * r → live_length a ≤ r + 1
live_least a r h = omega arith

-- in tables that are long enough every write of a plan can be stored
pub long_ample : (S : Slices) → LongEnough (length S.arena) (length S.lists) (length S.live) → Ample 8 12 S
unfolding grains
long_ample S h = record { classes = omega arith; lists = h.heads; live = omega arith }
