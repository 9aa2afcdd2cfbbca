-- T7 in memory, for take: the block that it hands out was free, so no other payload is there; and its other writes are
-- links of free blocks.
use Rattle.std.specs.Prelude.{ℕ, ◌+◌, ◌*◌, ◌≤◌, ◌≡◌, [], ◌∷◌, ◌++◌}
use Rattle.class.specs.Class.{list_of}
use Rattle.definition.specs.Blocks.{free}
use Rattle.definition.specs.Calls.{Heap, place, keeps}
use Rattle.invariants.specs.Order.{BlockAt}
use Rattle.invariants.specs.Members.{Mem}
use Rattle.script.specs.Memory.{Memory, Next, Prev, Live, none, ◌at◌≔◌}
use Rattle.sound.specs.Plans.{Plan, pad_writes}
use Rattle.sound.specs.Leave.{leave_writes}
use Rattle.sound.specs.Links.{unlink_writes}

-- ---- take

-- the free block that a take gets, and what is planned
pub record Taking (n c p a : ℕ) (m : Memory) (h : Heap) (t : Plan) : Type 0 where
  pub start : ℕ
  pub grains : ℕ
  pub there : BlockAt start (free grains) 0 h.blocks
  pub member : Mem start (h.lists (list_of grains))
  pub first : m Prev start ≡ none
  pub fits : keeps (place a start) p ≤ grains
  pub answer : t.answer ≡ 2 * start + place a start
  pub writes : t.writes ≡ leave_writes m (unlink_writes (list_of grains) (m Next start) none) start grains (keeps (place a start) p)
      ++ (pad_writes start (place a start) ++ ((Live at 2 * start + place a start ≔ 1) ∷ []))
