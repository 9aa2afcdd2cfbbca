-- T11, all calls at once: on any memory with a row, a call that is not refused gives an answer that the definition can give.
use Rattle.std.specs.Prelude.{ℕ, ◌+◌, ◌*◌, ◌≤◌, ◌<◌, ◌≡◌, List}
use Rattle.class.specs.Class.{list_of, start_of}
use Rattle.definition.specs.Blocks.{Block, free, used}
use Rattle.definition.specs.Lists.{Lists, found}
use Rattle.definition.specs.Calls.{Heap, granted, wanted, take_at, give_back, insert, append}
use Rattle.invariants.specs.Order.{BlockAt}
use Rattle.script.specs.Memory.{Memory}
use Rattle.plans.specs.Deeds.{Plan}
use Rattle.plans.specs.Checked.{GuardStands}
use Rattle.plans.specs.Calls.{Call, Allocate, Deallocate, Reallocate, Insert, Append}
use Rattle.armour.specs.Turns.{Armoured}
use Rattle.armour.specs.Reallocates.{Answered}

-- The answer v and the heap g are the definition's for this call. Where the definition takes the head of the first list that is
-- not empty, any free block of a list that it searches will do.
pub record Handed (c : ℕ) (h : Heap) (p a v : ℕ) (g : Heap) : Type 0 where
  pub block : ℕ
  pub grains : ℕ
  pub was_free : BlockAt block (free grains) 0 h.blocks
  pub searched : (start_of (wanted p a) ≤ list_of grains) × (list_of grains < 16 * c)
  pub defined : take_at h p a (found (list_of grains) block) ≡ granted v g

abbrev pub Possible : ℕ → Heap → Call → ℕ → Heap → Type 0
Possible c h (Allocate p a) v g = Handed c h p a v g
Possible c h (Deallocate q) v g = give_back h q ≡ granted v g
Possible c h (Reallocate q p a) v g = Answered c h q p a v g
Possible c h (Insert x len) v g = insert c h x len ≡ granted v g
Possible c h (Append x len) v g = append c h x len ≡ granted v g

-- A payload that is returned or resized was live, and the guard of its block stood. So where a module changed the guard, the call
-- is refused: with 5, see refines, Broken.
pub record Intact (m : Memory) (xs : List Block) (q : ℕ) : Type 0 where
  pub block : ℕ
  pub grains : ℕ
  pub place : ℕ
  pub was_used : BlockAt block (used grains place) 0 xs
  pub payload : q ≡ 2 * block + place
  pub guarded : GuardStands m block

abbrev pub CallIntact : Memory → List Block → Call → Type 0
CallIntact m xs (Allocate p a) = Unit {0}
CallIntact m xs (Deallocate q) = Intact m xs q
CallIntact m xs (Reallocate q p a) = Intact m xs q
CallIntact m xs (Insert x len) = Unit {0}
CallIntact m xs (Append x len) = Unit {0}

pub record CallArmoured (n c : ℕ) (m : Memory) (xs : List Block) (f : Lists) (k : Call) (t : Plan) : Type 0 where
  pub intact : CallIntact m xs k
  pub heap : Heap
  pub possible : Possible c (record { blocks = xs; lists = f }) k t.answer heap
  pub armoured : Armoured n c m xs t heap.blocks
