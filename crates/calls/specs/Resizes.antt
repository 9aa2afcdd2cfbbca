-- A resize that is granted, on slices that stand for a heap. The payload's bytes arrive; no other payload changes; and what
-- was moved lies in the new payload, so that the slices stand for the definition's heap. The plan's writes are in two parts
-- with the move between them (`carried`); where the payload stays at its place nothing is moved.
use Rattle.std.specs.Prelude.{ℕ, ◌+◌, ◌*◌, ◌≡◌}
use Rattle.definition.specs.Blocks.{used}
use Rattle.definition.specs.Calls.{Heap}
use Rattle.invariants.specs.Order.{BlockAt}
use Rattle.script.specs.Script.{ok}
use Rattle.sound.specs.Plans.{Plan}
use Rattle.slices.specs.Slices.{Slices}
use Rattle.sound.specs.Calls.{Resize}
use Rattle.definition.specs.Units.{halves, multiple}
use Rattle.request.specs.Asked.{InRange}
use Rattle.request.specs.Returned.{Stands}
use Rattle.carry.specs.Carry.{carried}
use Rattle.calls.specs.Performs.{outcome}

-- a resize that is not refused was granted by its script
pub record GrantedResize (S : Slices) (x n a z : ℕ) (T : Slices) : Type 0 where
  pub q : ℕ
  pub plan : Plan
  pub range : InRange n a
  pub there : Stands x a q
  pub outcome_is : outcome S (Resize q (halves 16 n) (multiple 16 a)) ≡ ok plan
  pub answer : 16 * plan.answer ≡ z
  pub left_is : T ≡ carried S q plan

-- ---- on slices that stand for a heap

-- the payload at q, counted in half grains, is that of a block in use: of s grains at x, with its place d
pub record Live (h : Heap) (q : ℕ) : Type 0 where
  pub x : ℕ
  pub s : ℕ
  pub d : ℕ
  pub here : BlockAt x (used s d) 0 h.blocks
  pub payload : 2 * x + d ≡ q
