-- Payloads that are not live, where the tags are those of blocks and everything else may be anything: deallocate and reallocate
-- refuse them with 3, and write nothing.
-- For a crane engineer: a payload that is returned twice, and an address that was never handed out, are refused with 3, whatever
-- any module wrote into the arena.
use Prim.Native.Nat.{ℕ, ◌+◌, ◌*◌}
use Rattle.std.specs.Prelude.{◌≡◌, List}
use Rattle.definition.specs.Blocks.{Block, used}
use Rattle.invariants.specs.Order.{BlockAt}
use Rattle.plans.specs.Calls.{Call, Allocate, Deallocate, Reallocate, Insert, Append}

-- no used block has its payload at q
abbrev pub NotLiveIn : List Block → ℕ → Type 0
NotLiveIn xs q = (x s d : ℕ) → BlockAt x (used s d) 0 xs → q ≡ 2 * x + d → ⊥

-- the call is given the payload at q
abbrev pub Names : Call → ℕ → Type 0
Names (Allocate p a) q = ⊥
Names (Deallocate v) q = v ≡ q
Names (Reallocate v p a) q = v ≡ q
Names (Insert g len) q = ⊥
Names (Append g len) q = ⊥
