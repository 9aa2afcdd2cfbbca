-- What the heap promises of each call: one record for each, with a name for every promise (`Promise` for giving a region, and
-- in it what holds of all calls; `Allocated`, `Deallocated`, `Reallocated`, `Initialised`). S are the slices as they were lent, r is the
-- reply and T are the slices afterwards. Nothing is asked of S, of the numbers or of the order of the calls, but what a field
-- itself says. A caller who reads no further than this file knows what to rely on; Promised proves that it is kept.
use Rattle.std.specs.Prelude.{ℕ, ◌+◌, ◌-◌, ◌*◌, ◌≤◌, ◌<◌, ◌≡◌, Bool, true, List, length, get_or}
use Rattle.definition.specs.Blocks.{free, used}
use Rattle.definition.specs.Units.{halves, multiple}
use Rattle.definition.specs.Calls.{Heap, empty, wanted}
use Rattle.invariants.specs.Order.{BlockAt}
use Rattle.invariants.specs.NotLive.{NotLive}
use Rattle.invariants.specs.Cramped.{Cramped}
use Rattle.script.specs.Memory.{Write}
use Rattle.script.specs.Script.{AtMost}
use Rattle.script.specs.Locality.{DiffersIn}
use Rattle.sound.specs.Plans.{Plan, take_script, give_back_script, resize_script}
use Rattle.sound.specs.RefusedCalls.{Among}
use Rattle.sound.specs.Runs.{Reply, yes, not}
use Rattle.slices.specs.Slices.{Slices, memory_of, stores}
use Rattle.slices.specs.Kept.{Lengths}
use Rattle.carry.specs.Carry.{carried}
use Rattle.request.specs.Asked.{InRange}
use Rattle.request.specs.Returned.{Stands}
use Rattle.calls.specs.Bytes.{ByteCall, allocate, deallocate, reallocate}
use Rattle.calls.specs.Performs.{Long, grains_of, Performs, Stand}
use Rattle.calls.specs.Storable.{AllLong}
use Rattle.calls.specs.Refines.{Spare, Refined}
use Rattle.calls.specs.Begins.{Begins}
use Rattle.calls.specs.Payload.{InPayloadBytes}
use Rattle.calls.specs.Untouched.{Other}
use Rattle.calls.specs.Numbers.{refusals}
use Rattle.calls.specs.Conditions.{NoList}
use Rattle.calls.specs.Handed.{Within, Handed}
use Rattle.calls.specs.Rehoused.{Rehoused}
use Rattle.calls.specs.Damage.{ReadsNone, MovesSame, Contains}

-- ---- every call

-- the words for which D says yes: field f at grain or number y
abbrev pub Of : (ℕ → ℕ → Bool) → ℕ → ℕ → Type 0
Of D f y = D f y ≡ true

pub record Promise (S : Slices) (k : ByteCall) (r : Reply) (T : Slices) : Type 0 where
  -- T1, T2: it is refused, in the order of Performs, or has stored exactly the writes of the call's plan, and moved what it
  -- says
  pub exact : Performs S k r T
  -- T1: a refusal changes nothing
  pub unchanged : (i : ℕ) → r ≡ not i → T ≡ S
  -- no slice becomes longer or shorter
  pub lengths : Lengths S T
  -- T1: and a refusal has one of the call's numbers
  pub numbers : (i : ℕ) → r ≡ not i → Among (refusals k) i
  -- T4: on slices that stand for a heap the reply is the definition's, and the slices then stand for the definition's heap
  pub refines : (h : Heap) → AllLong S → Stand S h → Spare S k → Refined h k r T
  -- T6: on such slices the records are never found to contradict each other
  pub never_5 : (h : Heap) → Stand S h → r ≡ not 5 → ⊥
  -- T7: and no byte of a live payload changes, but of the one that the call is about
  pub untouched : (h : Heap) → Stand S h → (y s d : ℕ) → BlockAt y (used s d) 0 h.blocks → Other k (2 * y + d)
      → (j : ℕ) → InPayloadBytes j y s d → get_or T.arena j 0 ≡ get_or S.arena j 0
  -- T10: slices that differ in words which the call doesn't read, and in no byte that it moves, get the same reply, and differ
  -- in no more words afterwards (words as they are decoded)
  pub contained : (D : ℕ → ℕ → Bool) (Q : Slices) → AllLong S → Lengths S Q → DiffersIn (Of D) (memory_of 8 S) (memory_of 8 Q) → ReadsNone (Of D) S k
      → MovesSame S Q k → Contains (Of D) T Q k r

-- at most so many words are stored
abbrev pub Stores : ℕ → Slices → Slices → Type 0
Stores i S T = (w : List Write) × (T ≡ stores 8 S w) × (length w ≤ i)

-- ---- take: n bytes at a multiple of a

pub record Allocated (S : Slices) (n a : ℕ) (r : Reply) (T : Slices) : Type 0 where
  pub promise : Promise S (allocate n a) r T
  -- T3: what it does hangs on ten words at the most and one search of the map, and is twelve writes at the most, whatever is
  -- in the slices
  pub reads : AtMost 1 (take_script (grains_of S) 12 (halves 16 n) (multiple 16 a)) 10
  pub writes : Stores 12 S T
  -- T7: whatever is in the slices, what is granted lies in the arena, is aligned, long enough, and can be given back with the
  -- same alignment
  pub within : (x : ℕ) → r ≡ yes x → Within S n a x
  -- T6: on slices that stand for a heap it is refused with 1 exactly where every list that can be searched is empty
  pub refused_exactly : (h : Heap) → Stand S h → Long S (allocate n a) → InRange n a → (r ≡ not 1 → NoList h n a) × (NoList h n a → r ≡ not 1)
  -- T9: so never while a free block has 17/16 of the grains that are looked for
  pub fits : (h : Heap) → Stand S h → Long S (allocate n a) → InRange n a → (y s : ℕ) → BlockAt y (free s) 0 h.blocks
      → 17 * wanted (halves 16 n) (multiple 16 a) ≤ 16 * s → r ≡ not 1 → ⊥
  -- T7: and what is granted was free, and all blocks in use stay
  pub handed : (h : Heap) → AllLong S → Stand S h → (x : ℕ) → r ≡ yes x → Handed h n a x T

-- ---- return: the payload at the offset x, which the alignment a suits

pub record Deallocated (S : Slices) (x a : ℕ) (r : Reply) (T : Slices) : Type 0 where
  pub promise : Promise S (deallocate x a) r T
  -- T3: what it does hangs on 24 words at the most, and is eleven writes at the most, whatever is in the slices
  pub reads : (q : ℕ) → AtMost 0 (give_back_script (grains_of S) 12 q) 24
  pub writes : Stores 11 S T
  -- T6: on slices that stand for a heap a payload that the alignment suits is refused with 3 exactly where no block in use has
  -- its payload there
  pub refused_exactly : (h : Heap) → Stand S h → Long S (deallocate x a) → (q : ℕ) → Stands x a q → (r ≡ not 3 → NotLive h q) × (NotLive h q → r ≡ not 3)
  -- T6: and a live one is never refused
  pub live_returned : (h : Heap) → Stand S h → Long S (deallocate x a) → (y s d : ℕ) → BlockAt y (used s d) 0 h.blocks → Stands x a (2 * y + d)
      → (i : ℕ) → r ≡ not i → ⊥

-- ---- resize: the payload at the offset x, which the alignment a suits, is to have n bytes

-- at most i words are stored, and in the middle of that at most n bytes are moved, once
pub record Carries (i n : ℕ) (S T : Slices) : Type 0 where
  pub payload : ℕ
  pub plan : Plan
  pub is : T ≡ carried S payload plan
  pub words : length plan.writes ≤ i
  pub bytes : 16 * plan.moved ≤ n

-- a block in use of the heap h has its payload at the offset x
pub record Holds (h : Heap) (x y s d : ℕ) : Type 0 where
  pub block : BlockAt y (used s d) 0 h.blocks
  pub offset : x ≡ 16 * (2 * y + d)

pub record Reallocated (S : Slices) (x n a : ℕ) (r : Reply) (T : Slices) : Type 0 where
  pub promise : Promise S (reallocate x n a) r T
  -- T3: what it does hangs on 55 words at the most and one search of the map; it is 23 writes at the most, and no more bytes
  -- are moved than the payload is to have, whatever is in the slices
  pub reads : (q : ℕ) → AtMost 1 (resize_script (grains_of S) 12 q (halves 16 n) (multiple 16 a)) 55
  pub writes : Carries 23 n S T
  -- T3: nor more than it had, on slices that stand for a heap
  pub moves : (h : Heap) → Stand S h → (y s d : ℕ) → Holds h x y s d → Carries 23 (32 * (y + s) - x) S T
  -- T7: whatever is in the slices, what is granted lies in the arena, is aligned, long enough, and can be given back with the
  -- same alignment
  pub within : (z : ℕ) → r ≡ yes z → Within S n a z
  -- T7: on slices that stand for a heap, where the answer is the old offset, all kept bytes are as they were
  pub stays : (h : Heap) → Stand S h → (y s d : ℕ) → Holds h x y s d → r ≡ yes x → (i : ℕ) → x + i < 32 * (y + s) → i < n
      → get_or T.arena (x + i) 0 ≡ get_or S.arena (x + i) 0
  -- T7: and where it is another, they are there: the first bytes, as many as the payload had and is to have
  pub arrives : (h : Heap) → Stand S h → (y s d : ℕ) → Holds h x y s d → (z : ℕ) → r ≡ yes z → (i : ℕ) → x + i < 32 * (y + s) → i < n
      → get_or T.arena (z + i) 0 ≡ get_or S.arena (x + i) 0
  -- T7: it has a block of its own, and every other block in use stays
  pub rehoused : (h : Heap) → AllLong S → Stand S h → (y s d : ℕ) → Holds h x y s d → (z : ℕ) → r ≡ yes z → Rehoused h y s d n a z T
  -- T6: a payload that the alignment suits is refused with 3 exactly where no block in use has its payload there
  pub refused_exactly : (h : Heap) → Stand S h → Long S (reallocate x n a) → InRange n a → (q : ℕ) → Stands x a q → (r ≡ not 3 → NotLive h q) × (NotLive h q → r ≡ not 3)
  -- T6: a live one is refused with 1 alone, and this exactly where it has no room in place, none downwards, and every list
  -- that a take would search is empty
  pub live_refused : (h : Heap) → Stand S h → Long S (reallocate x n a) → InRange n a → (y s d : ℕ) → BlockAt y (used s d) 0 h.blocks → Stands x a (2 * y + d)
      → (i : ℕ) → r ≡ not i → i ≡ 1
  pub cramped_exactly : (h : Heap) → Stand S h → Long S (reallocate x n a) → InRange n a → (y s d : ℕ) (b : BlockAt y (used s d) 0 h.blocks) → Stands x a (2 * y + d)
      → (r ≡ not 1 → Cramped h y s d (halves 16 n) (multiple 16 a) b × NoList h n a) × (Cramped h y s d (halves 16 n) (multiple 16 a) b × NoList h n a → r ≡ not 1)

-- ---- an empty heap

pub record Initialised (S : Slices) (r : Reply) (T : Slices) : Type 0 where
  -- T1: refused with 6 exactly where a table is too short, or the tables are those of the empty heap
  pub exact : Begins S r T
  pub unchanged : (i : ℕ) → r ≡ not i → T ≡ S
  pub lengths : Lengths S T
  -- T4: the slices stand for the heap to which nothing was given, whatever was in them
  pub stands : (v : ℕ) → r ≡ yes v → Stand T (empty (grains_of T))
