-- T5: any number of calls, one after the other, from a sound memory. Between the calls the callers may write into their live
-- payloads. The answers are the definition's, one by one, and the memory at the end is sound for the heap at the end. The
-- definition is told how many regions the table holds, and answers 6 itself; so every list of calls is meant.
use Rattle.std.specs.Prelude.{ℕ, ◌+◌, ◌≤◌, ◌≡◌}
use Rattle.choice.specs.Choice.{if_eq}
use Rattle.definition.specs.Blocks.{free, used}
use Rattle.definition.specs.Calls.{Heap, Answer, refused, granted}
use Rattle.invariants.specs.Order.{BlockAt}
use Rattle.script.specs.Memory.{Memory, Next, Prev, Mark, Table}
use Rattle.script.specs.Script.{Result, ok, no}
use Rattle.tags.specs.Tag.{Tag}
use Rattle.chains.specs.Links.{Head}
use Rattle.plans.specs.Deeds.{Plan, after}
use Rattle.plans.specs.Calls.{Call, Allocate, Deallocate, Reallocate, Insert, Append, Fair}
use Rattle.armour.specs.Row.{Sound}
use Rattle.refines.specs.Sounds.{number}
use Rattle.refines.specs.Calls.{answer_of}

-- ---- payloads are written

-- d differs from m in words that are neither the first two of a block, nor the heap's own tables
pub record Filled (h : Heap) (m d : Memory) : Type 0 where
  pub tags : d Tag ≡ m Tag
  pub regions : d Table ≡ m Table
  pub heads : d Head ≡ m Head
  pub marks : d Mark ≡ m Mark
  pub frees : (x s : ℕ) → BlockAt x (free s) 0 h.blocks → (d Next x ≡ m Next x) × (d Prev x ≡ m Prev x)
  pub useds : (x s e : ℕ) → BlockAt x (used s e) 0 h.blocks → (d Next x ≡ m Next x) × (d Prev x ≡ m Prev x)

-- ---- what is heard of a call

pub data Reply : Type 0 where
  yes : ℕ → Reply
  not : ℕ → Reply

-- in memory
abbrev pub reply : Result Plan → Reply
reply (ok t) = yes t.answer
reply (no i) = not i

abbrev pub written : Memory → Result Plan → Memory
written m (ok t) = after m t
written m (no i) = m

-- in the definition: a heap, and how many regions were given
pub record Model : Type 0 where
  pub heap : Heap
  pub regions : ℕ

abbrev pub said : Answer → Reply
said (refused w) = not (number w)
said (granted v g) = yes v

abbrev pub asks : Call → ℕ
asks (Allocate p a) = 0
asks (Deallocate q) = 0
asks (Reallocate q p a) = 0
asks (Insert g len) = 1
asks (Append g len) = 1

abbrev pub left : Model → ℕ → Answer → Model
left s k (refused w) = s
left s k (granted v g) = record { heap = g; regions = k + s.regions }

-- a table that is full has no room for another region
abbrev pub answers : (c most : ℕ) → Call → Model → Reply
answers c most k s = if_eq (asks k) 1 (if_eq s.regions most (not 6) (said (answer_of c k s.heap))) (said (answer_of c k s.heap))

abbrev pub next : (c most : ℕ) → Call → Model → Model
next c most k s = if_eq (asks k) 1 (if_eq s.regions most s (left s (asks k) (answer_of c k s.heap))) (left s (asks k) (answer_of c k s.heap))

-- the memory stands for the model
pub record Stands (n c most : ℕ) (m : Memory) (s : Model) : Type 0 where
  pub sound : Sound n c m s.heap
  pub count : m Table 0 ≡ s.regions
  pub few : s.regions ≤ most

-- ---- one call

pub record Agrees (n c most : ℕ) (m : Memory) (r : Result Plan) (w : Reply) (s : Model) : Type 0 where
  pub heard : reply r ≡ w
  pub stands : Stands n c most (written m r) s

-- ---- all of them: the callers write, and then a call comes

pub record Turn : Type 0 where
  pub fill : Heap → Memory → Memory
  pub filled : (h : Heap) (m : Memory) → Filled h m (fill h m)
  pub call : Call
  pub fair : Fair call
