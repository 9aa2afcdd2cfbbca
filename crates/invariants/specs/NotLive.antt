-- A payload that no used block has is refused as not live, by return and by resize: both go to the first block whose
-- payload is asked for, and what they find there, if anything, is a used block of the heap.
use Rattle.std.specs.Prelude.{ℕ, ◌+◌, ◌*◌, ◌≡◌}
use Rattle.definition.specs.Blocks.{used}
use Rattle.definition.specs.Calls.{Heap}
use Rattle.invariants.specs.Order.{BlockAt}

-- no used block has its payload at q
abbrev pub NotLive : Heap → ℕ → Type 0
NotLive h q = (x s d : ℕ) → BlockAt x (used s d) 0 h.blocks → q ≡ 2 * x + d → ⊥
