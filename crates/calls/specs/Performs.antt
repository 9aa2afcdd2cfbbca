-- What a call does to lent slices, whatever is in them (`Performs`), and what the definition says that it does to a heap
-- (`Defines`). Both in the order in which refusals are tested: tables that are too short, numbers, offset, records.
use Rattle.std.specs.Prelude.{ℕ, ◌+◌, ◌-◌, ◌*◌, ◌/◌, ◌≤◌, ◌<◌, ◌≡◌, length}
use Rattle.bits.specs.Map.{map_words}
use Rattle.bits.specs.Map.{lists as list_count}
use Rattle.definition.specs.Calls.{Heap}
use Rattle.script.specs.Script.{ok, no, run, Result}
use Rattle.sound.specs.Plans.{Plan}
use Rattle.sound.specs.Sound.{Sound}
use Rattle.sound.specs.Calls.{Call, Take, Return, Resize, Give, Append, script_of, answer_of}
use Rattle.sound.specs.Runs.{Reply, yes, not, said, left}
use Rattle.slices.specs.Decode.{grains}
use Rattle.slices.specs.Slices.{Slices, memory_of, stores}
use Rattle.carry.specs.Carry.{carried}
use Rattle.tables.specs.Length.{LongEnough}
use Rattle.calls.specs.Bytes.{ByteCall, allocate, deallocate, reallocate, insert, append, Wrong, Asks, bytes, in_bytes}

-- the tables that a call needs are long enough
abbrev pub Long : Slices → ByteCall → Type 0
Long S (allocate n a) = LongEnough (length S.arena) (length S.lists) (length S.live)
Long S (deallocate x a) = LongEnough (length S.arena) (length S.lists) (length S.live)
Long S (reallocate x n a) = LongEnough (length S.arena) (length S.lists) (length S.live)
Long S (insert x n) = (map_words + list_count ≤ length S.lists) × (1 ≤ length S.regions)
Long S (append x n) = (map_words + list_count ≤ length S.lists) × (1 ≤ length S.regions)

-- a payload that is given back or resized is not behind an arena of n grains
abbrev pub Inside : ℕ → Call → Type 0
Inside n (Take p a) = Unit {0}
Inside n (Return q) = q < 2 * n
Inside n (Resize q p a) = q < 2 * n
Inside n (Give g len) = Unit {0}
Inside n (Append g len) = Unit {0}

-- the grains of the arena, the regions that the table can hold, and what the call's script answers
abbrev pub grains_of : Slices → ℕ
grains_of S = grains 8 S.arena

abbrev pub most_of : Slices → ℕ
most_of S = (length S.regions - 1) / 2

abbrev pub outcome : Slices → Call → Result Plan
outcome S K = run (memory_of 8 S) (script_of (grains_of S) 12 (most_of S) K)

-- refused before the heap is looked at
pub data Early (S : Slices) (k : ByteCall) : ℕ → Type 0 where
  short : (Long S k → ⊥) → Early S k 6
  wrong : (i : ℕ) → Long S k → Wrong k i → Early S k i
  outside : (K : Call) → Long S k → Asks k K → (Inside (grains_of S) K → ⊥) → Early S k 3

-- the call goes on to ask for K
pub record Goes (S : Slices) (k : ByteCall) (K : Call) : Type 0 where
  pub long : Long S k
  pub asks : Asks k K
  pub inside : Inside (grains_of S) K

-- what the plan p of a call leaves: its writes are stored, and a resize moves the payload in the middle of them
abbrev pub stored : Slices → Call → Plan → Slices
stored S (Take h a) p = stores 8 S p.writes
stored S (Return q) p = stores 8 S p.writes
stored S (Resize q h a) p = carried S q p
stored S (Give g len) p = stores 8 S p.writes
stored S (Append g len) p = stores 8 S p.writes

-- the reply, and the slices afterwards: a refusal leaves them as they were, and else exactly the plan's writes are stored
pub data Performs (S : Slices) (k : ByteCall) : Reply → Slices → Type 0 where
  early : (i : ℕ) → Early S k i → Performs S k (not i) S
  refused : (K : Call) (i : ℕ) → Goes S k K → outcome S K ≡ no i → Performs S k (not i) S
  granted : (K : Call) (p : Plan) → Goes S k K → outcome S K ≡ ok p → Performs S k (yes (bytes k p.answer)) (stored S K p)

-- the same of the definition's heap
pub data Defines (h : Heap) (k : ByteCall) : Reply → Heap → Type 0 where
  wrong : (i : ℕ) → Wrong k i → Defines h k (not i) h
  asked : (K : Call) → Asks k K → Defines h k (in_bytes k (said (answer_of 12 K h))) (left h (answer_of 12 K h))

-- the slices stand for the heap h
abbrev pub Stand : Slices → Heap → Type 0
Stand S h = Sound (grains_of S) 12 (memory_of 8 S) h
