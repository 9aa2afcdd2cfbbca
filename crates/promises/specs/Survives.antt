-- T11 of every call on a memory: the blocks that it leaves, with what was lent, and with every block in use that the call is not
-- about.
use Rattle.std.specs.Prelude.{ℕ, ◌+◌, ◌*◌, ◌≤◌, ◌≡◌, List, ◌⊎◌}
use Rattle.definition.specs.Blocks.{Block, used}
use Rattle.definition.specs.Lists.{Lists}
use Rattle.definition.specs.Calls.{Heap}
use Rattle.invariants.specs.Order.{BlockAt}
use Rattle.script.specs.Memory.{Memory}
use Rattle.plans.specs.Deeds.{Plan}
use Rattle.plans.specs.Calls.{Call, Allocate, Deallocate, Reallocate, Insert, Append}
use Rattle.armour.specs.Turns.{Armoured}
use Rattle.armour.specs.Calls.{Possible}
use Rattle.armour.specs.Ledger.{Loan, Backed}

-- the call is not about the payload at v
abbrev pub NotOf : Call → ℕ → Type 0
NotOf (Allocate p a) v = Unit {0}
NotOf (Deallocate q) v = q ≡ v → ⊥
NotOf (Reallocate q p a) v = q ≡ v → ⊥
NotOf (Insert g len) v = Unit {0}
NotOf (Append g len) v = Unit {0}

abbrev pub loan : ℕ → ℕ → ℕ → Loan
loan v p a = record { payload = v; halves = p; multiple = a }

-- what was answered is lent, or no longer live
abbrev pub LentAt : Call → ℕ → List Block → Type 0
LentAt (Allocate p a) v ys = Backed ys (loan v p a)
LentAt (Deallocate q) v ys = (y s d : ℕ) → BlockAt y (used s d) 0 ys → q ≡ 2 * y + d → ⊥
LentAt (Reallocate q p a) v ys = Backed ys (loan v p a)
LentAt (Insert g len) v ys = Unit {0}
LentAt (Append g len) v ys = Unit {0}

-- the payload that is moved is moved clear of the block of s grains at y
abbrev pub Clear : Call → Plan → ℕ → ℕ → Type 0
Clear (Allocate p a) t y s = Unit {0}
Clear (Deallocate q) t y s = Unit {0}
Clear (Reallocate q p a) t y s = (t.moved ≡ 0) ⊎ ((t.answer + t.moved ≤ 2 * y) ⊎ (2 * (y + s) ≤ t.answer))
Clear (Insert g len) t y s = Unit {0}
Clear (Append g len) t y s = Unit {0}

-- the payload at w is the one that was answered
abbrev pub Answered : Call → ℕ → ℕ → Type 0
Answered (Allocate p a) v w = v ≡ w
Answered (Deallocate q) v w = ⊥
Answered (Reallocate q p a) v w = v ≡ w
Answered (Insert g len) v w = ⊥
Answered (Append g len) v w = ⊥

pub record Survives (n c : ℕ) (m : Memory) (xs : List Block) (f : Lists) (K : Call) (t : Plan) : Type 0 where
  pub heap : Heap
  pub possible : Possible c (record { blocks = xs; lists = f }) K t.answer heap
  pub armoured : Armoured n c m xs t heap.blocks
  pub stays : (y s d : ℕ) → BlockAt y (used s d) 0 xs → NotOf K (2 * y + d) → BlockAt y (used s d) 0 heap.blocks
  pub lent : LentAt K t.answer heap.blocks
  pub clear : (y s d : ℕ) → BlockAt y (used s d) 0 xs → NotOf K (2 * y + d) → Clear K t y s
  pub fresh : (y s d : ℕ) → BlockAt y (used s d) 0 xs → NotOf K (2 * y + d) → Answered K t.answer (2 * y + d) → ⊥
  pub only : (y s d : ℕ) → BlockAt y (used s d) 0 heap.blocks → Answered K t.answer (2 * y + d) ⊎ (BlockAt y (used s d) 0 xs × NotOf K (2 * y + d))
