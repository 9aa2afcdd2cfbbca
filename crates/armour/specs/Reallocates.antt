-- T11, reallocate: on any memory whose tags are those of blocks, it is refused, or the payload is resized as the definition says,
-- where a block that is taken elsewhere may be any free block of a list that is searched. The payload stays, or arrives.
use Rattle.std.specs.Prelude.{ℕ, ◌+◌, ◌-◌, ◌*◌, ◌%◌, ◌≤◌, ◌<◌, ◌≡◌, List, ◌∷◌, ◌⊎◌}
use Rattle.class.specs.Class.{list_of, start_of}
use Rattle.definition.specs.Blocks.{Block, free, used, total, ◌⟨⟩◌}
use Rattle.definition.specs.Lists.{Lists, found}
use Rattle.definition.specs.Calls.{Heap, granted, wanted, place, take_at, back_after, elsewhere, resize}
use Rattle.invariants.specs.Order.{BlockAt}
use Rattle.script.specs.Memory.{Memory}
use Rattle.sound.specs.Swaps.{Swaps}
use Rattle.plans.specs.Deeds.{Deed, Plan, plan_of}
use Rattle.plans.specs.Checked.{GuardStands}
use Rattle.armour.specs.Row.{Free}
use Rattle.armour.specs.Turns.{Turns, Armoured}
use Rattle.armour.specs.Carried.{Carried}

-- the answer v and the heap g are the definition's; or those it gives with another free block of a list that it searches
pub data Answered (c : ℕ) (h : Heap) (q p a v : ℕ) (g : Heap) : Type 0 where
  alone : resize c h q p a ≡ granted v g → Answered c h q p a v g
  other : (y s : ℕ) → BlockAt y (free s) 0 h.blocks → start_of (wanted p a) ≤ list_of s → list_of s < 16 * c → resize c h q p a ≡ elsewhere c h q p a
      → back_after (take_at h p a (found (list_of s) y)) q ≡ granted v g → Answered c h q p a v g

-- what becomes of the payload: its block has k grains, and the payload is where it was; or it arrives
pub data Payload (q x s d : ℕ) (ys : List Block) (t : Plan) : Type 0 where
  kept : (k : ℕ) → BlockAt x (used k d) 0 ys → t.answer ≡ q → t.moved ≡ 0 → Payload q x s d ys t
  arrives : Carried q (2 * s - d) t → Payload q x s d ys t

-- the block at z, of k grains, with the payload's place e, in the place of the one at x
pub record Resized (c p a : ℕ) (xs ys : List Block) (x s d q v : ℕ) : Type 0 where
  pub z : ℕ
  pub k : ℕ
  pub e : ℕ
  pub here : BlockAt z (used k e) 0 ys
  pub payload : v ≡ 2 * z + e
  pub long : e + p ≤ 2 * k
  pub aligned : (v ≡ q) ⊎ (v % a ≡ 0)
  pub swaps : Swaps xs ys x (used s d) z (used k e)
  -- it starts where the block stood, or where a free block did
  pub old : (z ≡ x) ⊎ Free xs z
  -- and no other used block stands there
  pub gone : (y t u : ℕ) → BlockAt y (used t u) 0 ys → (y ≡ z → ⊥) → y ≡ x → ⊥

pub record ReallocateArmoured (n c q p a : ℕ) (m : Memory) (xs : List Block) (f : Lists) (t : Plan) : Type 0 where
  pub block : ℕ
  pub grains : ℕ
  pub place : ℕ
  pub was_used : BlockAt block (used grains place) 0 xs
  pub owner : q ≡ 2 * block + place
  -- the guard of its block stood
  pub guarded : GuardStands m block
  pub heap : Heap
  -- its block afterwards; every other block in use stays
  pub resized : Resized c p a xs heap.blocks block grains place q t.answer
  pub defined : Answered c (record { blocks = xs; lists = f }) q p a t.answer heap
  pub armoured : Armoured n c m xs t heap.blocks
  -- q is a multiple of a: the public call refuses every other alignment
  pub payload : q % a ≡ 0 → Payload q block grains place heap.blocks t
  -- what is moved was in the old payload, and the new one has room for it
  pub moved : (t.moved ≤ 2 * grains - place) × (t.moved ≤ p)

-- ---- the used block of s grains between l and r

-- a deed for it
pub record Turned (n c p a : ℕ) (m : Memory) (f : Lists) (l r : List Block) (s d : ℕ) (t : Deed) : Type 0 where
  pub heap : Heap
  pub resized : Resized c p a (l ⟨⟩ used s d ∷ r) heap.blocks (total l) s d (2 * total l + d) t.answer
  pub defined : Answered c (record { blocks = l ⟨⟩ used s d ∷ r; lists = f }) (2 * total l + d) p a t.answer heap
  pub turns : Turns n c m (l ⟨⟩ used s d ∷ r) t heap.blocks
  pub payload : (2 * total l + d) % a ≡ 0 → Payload (2 * total l + d) (total l) s d heap.blocks (plan_of m t)
  pub moved : (t.moved ≤ 2 * s - d) × (t.moved ≤ p)
