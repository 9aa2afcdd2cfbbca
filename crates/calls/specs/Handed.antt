-- T7: what a take hands out. On any slices it lies inside the arena, is aligned, long enough, and can be given back with the
-- same alignment. On slices that stand for a heap it was free, and no other block in use changes.
use Rattle.std.specs.Prelude.{ℕ, ◌+◌, ◌*◌, ◌/◌, ◌%◌, ◌≤◌, ◌≡◌, length}
use Rattle.definition.specs.Units.{halves, multiple}
use Rattle.definition.specs.Calls.{Heap}
use Rattle.invariants.specs.Promises.{Granted}
use Rattle.slices.specs.Slices.{Slices}
use Rattle.request.specs.Returned.{Stands}
use Rattle.calls.specs.Performs.{granted, Stand}

-- ---- on any slices

-- n bytes at the offset x, for the alignment a
pub record Within (S : Slices) (n a x : ℕ) : Type 0 where
  pub low : 16 ≤ x
  pub inside : x + n ≤ length S.arena
  pub aligned : x % a ≡ 0
  pub returnable : Stands x a (x / 16)

-- ---- on slices that stand for a heap

-- what is granted of n bytes at a multiple of a in the heap h, at the offset x: a part of what was free, aligned, long
-- enough, inside its block; all blocks in use stay, and it is the only new one
pub record Handed (h : Heap) (n a x : ℕ) (T : Slices) : Type 0 where
  pub heap : Heap
  pub stands : Stand T heap
  pub payload : ℕ
  pub granted : Granted 12 h (halves 16 n) (multiple 16 a) payload heap
  pub offset : x ≡ 16 * payload
  pub aligned : x % a ≡ 0
  pub long : x + n ≤ 32 * (granted.x + granted.s)
