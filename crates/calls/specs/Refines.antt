-- T4 to T6 of the calls on slices: what a call does to slices that stand for a heap is what the definition says, and the
-- slices afterwards stand for the definition's heap.
use Rattle.std.specs.Prelude.{ℕ, ◌*◌, ◌<◌}
use Rattle.std.proofs.Common.{arith}
use Rattle.table.specs.Table.{entry}
use Rattle.definition.specs.Blocks.{used, last}
use Rattle.definition.specs.Calls.{Heap}
use Rattle.invariants.specs.Order.{out}
use Rattle.invariants.proofs.Order.{at_end_lem, at_whole}
use Rattle.invariants.proofs.InPiece.{in_piece}
use Rattle.invariants.specs.NotLive.{NotLive}
use Rattle.script.specs.Memory.{Memory}
use Rattle.sound.specs.Sound.{Sound}
use Rattle.sound.specs.Runs.{Reply}
use Rattle.slices.specs.Slices.{Slices}
use Rattle.calls.specs.Bytes.{ByteCall, allocate, deallocate, reallocate, insert, append}
use Rattle.calls.specs.Performs.{most_of, Defines, Stand}

-- the table has room for the regions of a call
abbrev pub Spare : Slices → ByteCall → Type 0
Spare S (allocate n a) = Unit {0}
Spare S (deallocate x a) = Unit {0}
Spare S (reallocate x n a) = Unit {0}
Spare S (insert x n) = entry S.regions 0 < most_of S
Spare S (append x n) = entry S.regions 0 < most_of S

-- no live payload is behind the arena
pub behind_not_live : (n c : ℕ) (m : Memory) (h : Heap) → Sound n c m h → (q : ℕ) → (q < 2 * n → ⊥) → NotLive h q
behind_not_live n c m h o q f x s d b e =
    let i = in_piece x s d h.blocks o.heap.order b in
    f (omega (arith, i.behind, at_end_lem i.ends last 0 h.blocks i.sentinel, o.whole, (at_whole x (used s d) 0 out h.blocks o.heap.order b).1.within))

-- what is promised of a call on slices that stand for h: the definition's answer, and slices for its heap
pub record Refined (h : Heap) (k : ByteCall) (r : Reply) (T : Slices) : Type 0 where
  pub heap : Heap
  pub defined : Defines h k r heap
  pub stands : Stand T heap
