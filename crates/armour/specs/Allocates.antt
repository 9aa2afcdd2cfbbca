-- T11, allocate: on any memory whose tags are those of blocks, it is refused, or hands out part of a free block of a list that is
-- searched, and the tags become those that the definition leaves.
use Rattle.std.specs.Prelude.{ℕ, ◌+◌, ◌-◌, ◌*◌, ◌%◌, ◌≤◌, ◌<◌, ◌≡◌, List}
use Rattle.class.specs.Class.{list_of, start_of}
use Rattle.definition.specs.Blocks.{Block, free, used}
use Rattle.definition.specs.Lists.{Lists, found}
use Rattle.definition.specs.Calls.{Heap, granted, wanted, place, keeps, take_at}
use Rattle.invariants.specs.Order.{BlockAt}
use Rattle.script.specs.Memory.{Memory, Next, Prev}
use Rattle.sound.specs.Swaps.{Swaps}
use Rattle.chains.specs.Closed.{Headed}
use Rattle.plans.specs.Deeds.{Plan}
use Rattle.plans.specs.Allocate.{Taken}
use Rattle.armour.specs.Row.{Free}
use Rattle.armour.specs.Turns.{Armoured}

-- the first block of its list, at y, of s grains
abbrev pub first_at : ℕ → ℕ → Taken
first_at y s = record { list = list_of s; block = y; grains = s }

-- ---- what was found

-- T11 of allocate
pub record AllocateArmoured (n c p a : ℕ) (m : Memory) (xs : List Block) (f : Lists) (t : Plan) : Type 0 where
  pub block : ℕ
  pub grains : ℕ
  pub was_free : BlockAt block (free grains) 0 xs
  pub searched : (start_of (wanted p a) ≤ list_of grains) × (list_of grains < 16 * c)
  pub enough : wanted p a ≤ grains
  -- what is handed out: k grains of it, with the payload's place d
  pub k : ℕ
  pub d : ℕ
  pub payload : t.answer ≡ 2 * block + d
  pub aligned : t.answer % a ≡ 0
  pub long : d + p ≤ 2 * k
  pub heap : Heap
  pub here : BlockAt block (used k d) 0 heap.blocks
  pub swaps : Swaps xs heap.blocks block (free grains) block (used k d)
  pub defined : take_at (record { blocks = xs; lists = f }) p a (found (list_of grains) block) ≡ granted t.answer heap
  pub armoured : Armoured n c m xs t heap.blocks

-- what a search found, where the tags are those of xs
pub record Found (n c p a : ℕ) (m : Memory) (xs : List Block) (t : Taken) : Type 0 where
  pub there : BlockAt t.block (free t.grains) 0 xs
  pub class : list_of t.grains ≡ t.list
  pub low : start_of (wanted p a) ≤ t.list
  pub small : t.list < 16 * c
  pub enough : wanted p a ≤ t.grains
  pub next : Free xs (m Next t.block)
  pub prev : Free xs (m Prev t.block)
  pub rest : (keeps (place a t.block) p ≡ t.grains → ⊥) → Headed (Free xs) m (list_of (t.grains - keeps (place a t.block) p))
