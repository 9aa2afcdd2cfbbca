-- T7 of a resize, in bytes: what becomes of a live payload that is resized, on slices that stand for a heap. Its bytes are at
-- its new place, or where they were; it has a block of its own, long enough; and every other block in use stays.
use Rattle.std.specs.Prelude.{ℕ, ◌+◌, ◌*◌, ◌≤◌, ◌≡◌}
use Rattle.definition.specs.Units.{halves, multiple}
use Rattle.definition.specs.Calls.{Heap}
use Rattle.invariants.specs.Resized.{Resized}
use Rattle.slices.specs.Slices.{Slices}
use Rattle.calls.specs.Performs.{Stand}

-- the payload of the block of s grains at y, with its place d, is at the offset z now, with n bytes at a multiple of a
pub record Rehoused (h : Heap) (y s d n a z : ℕ) (T : Slices) : Type 0 where
  pub heap : Heap
  pub stands : Stand T heap
  pub payload : ℕ
  pub resized : Resized 12 h y s d (halves 16 n) (multiple 16 a) payload heap
  pub offset : z ≡ 16 * payload
  pub long : z + n ≤ 32 * (resized.start + resized.grains)
