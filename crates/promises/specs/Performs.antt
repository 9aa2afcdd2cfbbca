-- What a call does to lent slices, whatever is in them (`Performs`), and what the definition says that it does to a heap
-- (`Defines`). Both in the order in which refusals are tested: tables that are too short, numbers, and then what the script
-- of the call tests.
use Rattle.std.specs.Prelude.{ℕ, ◌+◌, ◌-◌, ◌/◌, ◌≤◌, ◌<◌, ◌≡◌, List, length}
use Rattle.table.specs.Table.{entry}
use Rattle.definition.specs.Blocks.{Block}
use Rattle.definition.specs.Calls.{Heap}
use Rattle.script.specs.Script.{ok, no, run, Result}
use Rattle.machine.specs.Machine.{words, classes, map_words}
use Rattle.machine.specs.Machine.{lists as list_count}
use Rattle.plans.specs.Deeds.{Plan, writes}
use Rattle.plans.specs.Calls.{Call, Allocate, Deallocate, Reallocate, Insert, Append, script_of}
use Rattle.armour.specs.Row.{Row, Sound}
use Rattle.refines.specs.Runs.{Reply, yes, not, Model, answers, next}
use Rattle.lent.specs.Slices.{Slices, grains, memory_of, stores}
use Rattle.lent.specs.Shifted.{carried_out}
use Rattle.lent.specs.Held.{Held}
use Rattle.promises.specs.Bytes.{ByteCall, allocate, deallocate, reallocate, insert, append, Wrong, Asks, bytes, in_bytes}

-- ---- lengths

-- the grains of the arena, and the regions that the table can hold
abbrev pub grains_of : Slices → ℕ
grains_of S = grains S.arena

abbrev pub most_of : Slices → ℕ
most_of S = (length S.regions - 1) / 2

-- a map and a head for each list; a tag for each grain and for the end
pub record LongEnough (S : Slices) : Type 0 where
  pub lists : map_words + list_count ≤ length S.lists
  pub tags : grains_of S < length S.tags

-- the tables that a call needs are long enough: insert and append count regions
abbrev pub Long : Slices → ByteCall → Type 0
Long S (allocate n a) = LongEnough S
Long S (deallocate x) = LongEnough S
Long S (reallocate x n a) = LongEnough S
Long S (insert b n) = LongEnough S × (1 ≤ length S.regions)
Long S (append b n) = LongEnough S × (1 ≤ length S.regions)

-- all tables are
pub record AllLong (S : Slices) : Type 0 where
  pub tables : LongEnough S
  pub some : 1 ≤ length S.regions

-- what every slice that a function was lent has: bytes, tags and words, and no more of them than a word can count
pub record Sized (S : Slices) : Type 0 where
  pub held : Held S
  pub arena : length S.arena < words
  pub regions : length S.regions < words

-- ---- on any slices

-- refused before the heap is looked at
pub data Early (S : Slices) (k : ByteCall) : ℕ → Type 0 where
  short : (Long S k → ⊥) → Early S k 6
  wrong : (i : ℕ) → Long S k → Wrong k i → Early S k i

-- the call goes on to ask for K
pub record Goes (S : Slices) (k : ByteCall) (K : Call) : Type 0 where
  pub long : Long S k
  pub asks : Asks k K

-- what the call's script answers
abbrev pub outcome : Slices → Call → Result Plan
outcome S K = run (memory_of S) (script_of (grains_of S) classes (most_of S) K)

-- what the plan of a call leaves: only reallocate moves a payload
abbrev pub stored : Slices → Call → Plan → Slices
stored S (Allocate p a) t = stores S (writes t)
stored S (Deallocate q) t = stores S (writes t)
stored S (Reallocate q p a) t = carried_out S q t
stored S (Insert g len) t = stores S (writes t)
stored S (Append g len) t = stores S (writes t)

-- the reply, and the slices afterwards: a refusal leaves them as they were, and else exactly the plan's writes are stored
pub data Performs (S : Slices) (k : ByteCall) : Reply → Slices → Type 0 where
  early : (i : ℕ) → Early S k i → Performs S k (not i) S
  refused : (K : Call) (i : ℕ) → Goes S k K → outcome S K ≡ no i → Performs S k (not i) S
  granted : (K : Call) (t : Plan) → Goes S k K → outcome S K ≡ ok t → Performs S k (yes (bytes k t.answer)) (stored S K t)

-- ---- on slices that stand for a heap

-- the tags and the table of regions are those of the blocks xs, whatever else is in the slices
abbrev pub Rowed : Slices → List Block → Type 0
Rowed S xs = Row (grains_of S) classes (memory_of S) xs

-- and lists and guards are those of the heap h
abbrev pub Stand : Slices → Heap → Type 0
Stand S h = Sound (grains_of S) classes (memory_of S) h

-- the heap h, with as many regions as the table counts
abbrev pub model_of : Slices → Heap → Model
model_of S h = record { heap = h; regions = entry S.regions 0 }

-- what the definition answers, with a table of at most `most` regions
pub data Defines (most : ℕ) (s : Model) (k : ByteCall) : Reply → Model → Type 0 where
  wrong : (i : ℕ) → Wrong k i → Defines most s k (not i) s
  asked : (K : Call) → Asks k K → Defines most s k (in_bytes k (answers classes most K s)) (next classes most K s)
