-- What the heap promises of each call: one record for each, with a name for every promise (`Promise` for what holds of all calls;
-- `Allocated`, `Deallocated`, `Reallocated`, `Inserted`, `Appended`, `Initialised`). S are the slices as they were lent, r is the
-- reply and T are the slices afterwards. Nothing is asked of S, of the numbers or of the order of the calls, but what a
-- field itself says. A caller who reads no further than this file knows what to rely on; Promised proves that it is kept.
-- `Stand S h`: the slices are those of the heap h. `Rowed S xs`: the tags and the table of regions are those of the blocks xs, and
-- whatever may stand in the arena and in the lists.
use Rattle.std.specs.Prelude.{ℕ, ◌+◌, ◌-◌, ◌*◌, ◌/◌, ◌≤◌, ◌<◌, ◌≡◌, Bool, true, List, get_or}
use Rattle.definition.specs.Blocks.{Block, free, used}
use Rattle.definition.specs.Units.{halves, multiple, first_grain, whole_grains}
use Rattle.definition.specs.Lists.{Lists}
use Rattle.definition.specs.Calls.{Heap, empty, wanted}
use Rattle.invariants.specs.Order.{BlockAt}
use Rattle.invariants.specs.Cramped.{Cramped}
use Rattle.script.specs.Script.{AtMost}
use Rattle.script.specs.Locality.{DiffersIn}
use Rattle.sound.specs.RefusedCalls.{Among}
use Rattle.request.specs.Asked.{InRange}
use Rattle.request.specs.Returned.{Suits}
use Rattle.machine.specs.Machine.{half, grain, classes}
use Rattle.plans.specs.Allocate.{allocate_script}
use Rattle.plans.specs.Deallocate.{deallocate_script}
use Rattle.plans.specs.Reallocate.{reallocate_script}
use Rattle.plans.specs.Calls.{Allocate, Deallocate, Reallocate}
use Rattle.refines.specs.Runs.{Reply, yes, not}
use Rattle.lent.specs.Slices.{Slices, memory_of}
use Rattle.lent.specs.Kept.{Lengths}
use Rattle.promises.specs.Bytes.{ByteCall, allocate, deallocate, reallocate, insert, append, following}
use Rattle.promises.specs.Performs.{grains_of, LongEnough, Long, Performs, Rowed, Stand}
use Rattle.promises.specs.Terms.{InPayload, SameAt, Other, Holds, Dead, NoList, Full, Bare, Ended, Recorded, Ungiven, Within, Handed, Rehoused, Decided, Stores, Carries, Refined, ReadsNone, MovesSame, Contains, Armour}
use Rattle.promises.specs.Numbers.{refusals}
use Rattle.promises.specs.Begins.{Begins}

-- ---- every call

-- the words for which D says yes: field f at grain or number y
abbrev pub Of : (ℕ → ℕ → Bool) → ℕ → ℕ → Type 0
Of D f y = D f y ≡ true

pub record Promise (S : Slices) (k : ByteCall) (r : Reply) (T : Slices) : Type 0 where
  -- T1, T2: it is refused, in the order of Performs, or has stored exactly the writes of the call's plan, and moved what it
  -- says
  pub exact : Performs S k r T
  -- T1: a refusal changes nothing
  pub unchanged : (i : ℕ) → r ≡ not i → T ≡ S
  -- no slice becomes longer or shorter
  pub lengths : Lengths S T
  -- T1: and a refusal has one of the call's numbers
  pub numbers : (i : ℕ) → r ≡ not i → Among (refusals k) i
  -- T4: on slices that stand for a heap the reply is the definition's, and the slices then stand for the definition's heap
  pub refines : (h : Heap) → Long S k → Stand S h → Refined S h k r T
  -- T6: on such slices the records are never found to contradict each other
  pub never_5 : (h : Heap) → Stand S h → r ≡ not 5 → ⊥
  -- T7, T11: where the tags are right, no byte of a live payload changes, but of the one that the call is about
  pub untouched : (xs : List Block) → Rowed S xs → (y s d : ℕ) → BlockAt y (used s d) 0 xs → Other k (2 * y + d)
      → (j : ℕ) → InPayload j y s d → SameAt S T j
  -- T7: nor does a byte of a grain that was never given, nor one after the last whole grain
  pub isolated : (xs ys : List Block) → Rowed S xs → Rowed T ys → (j : ℕ) → Ungiven xs j → Ungiven ys j → SameAt S T j
  -- T10: slices that differ in words which the call doesn't read, and in no byte that it moves, get the same reply, and differ
  -- in no more words afterwards (words as they are decoded)
  pub contained : (D : ℕ → ℕ → Bool) (Q : Slices) → Lengths S Q → DiffersIn (Of D) (memory_of S) (memory_of Q) → ReadsNone (Of D) S k
      → MovesSame S Q k → Contains (Of D) T Q k r
  -- T11: where the tags are right, they are right afterwards, whatever else was damaged
  pub armour : (xs : List Block) (f : Lists) → Rowed S xs → Armour S k r T xs f

-- ---- allocate: n bytes at a multiple of a

pub record Allocated (S : Slices) (n a : ℕ) (r : Reply) (T : Slices) : Type 0 where
  pub promise : Promise S (allocate n a) r T
  -- T3: what it does depends on 18 words and the map at the most, which is searched once, and is 16 writes at the most,
  -- whatever is in the slices
  pub reads : AtMost 1 (allocate_script (grains_of S) classes (halves half n) (multiple half a)) 18
  pub decided : Decided 1 18 S (Allocate (halves half n) (multiple half a))
  pub writes : Stores 16 S T
  -- T7: whatever is in the slices, what is granted lies in the arena, is aligned, long enough, and can be given back
  pub within : (x : ℕ) → r ≡ yes x → Within S n a x
  -- T7: on slices that stand for a heap it was free, and all blocks in use stay
  pub handed : (h : Heap) → Stand S h → (x : ℕ) → r ≡ yes x → Handed h n a x T
  -- T6: on such slices it is refused with 1 exactly where every list that can be searched is empty
  pub refused_exactly : (h : Heap) → Stand S h → LongEnough S → InRange n a → (r ≡ not 1 → NoList h n a) × (NoList h n a → r ≡ not 1)
  -- T9: so never while a free block has 17/16 of the grains that are looked for
  pub fits : (h : Heap) → Stand S h → LongEnough S → InRange n a → (y s : ℕ) → BlockAt y (free s) 0 h.blocks
      → 17 * wanted (halves half n) (multiple half a) ≤ 16 * s → r ≡ not 1 → ⊥

-- ---- deallocate: the payload at the offset x

pub record Deallocated (S : Slices) (x : ℕ) (r : Reply) (T : Slices) : Type 0 where
  pub promise : Promise S (deallocate x) r T
  -- T3: what it does depends on 40 words at the most, and is 19 writes at the most, whatever is in the slices
  pub reads : (q : ℕ) → AtMost 0 (deallocate_script (grains_of S) classes q) 40
  pub decided : (q : ℕ) → Decided 0 40 S (Deallocate q)
  pub writes : Stores 19 S T
  -- T2: it answers 0 where it is not refused
  pub answer : (v : ℕ) → r ≡ yes v → v ≡ 0
  -- T6, T11: where the tags are right it is refused with 3 exactly where no block in use has its payload there
  pub refused_exactly : (xs : List Block) → Rowed S xs → LongEnough S → (r ≡ not 3 → Dead xs x) × (Dead xs x → r ≡ not 3)
  -- T6: and on slices that stand for a heap a live one is never refused
  pub live_returned : (h : Heap) → Stand S h → LongEnough S → (y s d : ℕ) → Holds h.blocks x y s d → (i : ℕ) → r ≡ not i → ⊥

-- ---- reallocate: the payload at the offset x, which the alignment a suits, is to have n bytes

pub record Reallocated (S : Slices) (x n a : ℕ) (r : Reply) (T : Slices) : Type 0 where
  pub promise : Promise S (reallocate x n a) r T
  -- T3: what it does depends on 58 words and the map at the most, which is searched once; it is 35 writes at the most, and no
  -- more bytes are moved than the payload is to have, whatever is in the slices
  pub reads : (q : ℕ) → AtMost 1 (reallocate_script (grains_of S) classes q (halves half n) (multiple half a)) 58
  pub decided : (q : ℕ) → Decided 1 58 S (Reallocate q (halves half n) (multiple half a))
  pub writes : Carries 35 n S T
  -- T3: nor more than it had, where the tags are right
  pub moves : (xs : List Block) → Rowed S xs → (y s d : ℕ) → Holds xs x y s d → Carries 35 (grain * (y + s) - x) S T
  -- T7: whatever is in the slices, what is granted lies in the arena, is aligned, long enough, and can be given back
  pub within : (z : ℕ) → r ≡ yes z → Within S n a z
  -- T7, T11: where the tags are right, the payload's first bytes, as many as it had and is to have, are at its new place, or
  -- where they were
  pub arrives : (xs : List Block) → Rowed S xs → (y s d : ℕ) → Holds xs x y s d → (z : ℕ) → r ≡ yes z → (i : ℕ) → x + i < grain * (y + s) → i < n
      → get_or T.arena (z + i) 0 ≡ get_or S.arena (x + i) 0
  -- T7: on slices that stand for a heap it has a block of its own, and every other block in use stays
  pub rehoused : (h : Heap) → Stand S h → (y s d : ℕ) → Holds h.blocks x y s d → (z : ℕ) → r ≡ yes z → Rehoused h y s d n a z T
  -- T6, T11: where the tags are right, a payload that the alignment suits is refused with 3 exactly where no block in use has
  -- its payload there
  pub refused_exactly : (xs : List Block) → Rowed S xs → LongEnough S → InRange n a → Suits x a → (r ≡ not 3 → Dead xs x) × (Dead xs x → r ≡ not 3)
  -- T6: on slices that stand for a heap a live one is refused with 1 alone, and this exactly where it has no room in place,
  -- none downwards, and every list that allocate would search is empty
  pub live_refused : (h : Heap) → Stand S h → LongEnough S → InRange n a → Suits x a → (y s d : ℕ) → Holds h.blocks x y s d → (i : ℕ) → r ≡ not i → i ≡ 1
  pub cramped_exactly : (h : Heap) → Stand S h → LongEnough S → InRange n a → Suits x a → (y s d : ℕ) (b : Holds h.blocks x y s d)
      → (r ≡ not 1 → Cramped h y s d (halves half n) (multiple half a) b.block × NoList h n a)
      × (Cramped h y s d (halves half n) (multiple half a) b.block × NoList h n a → r ≡ not 1)

-- ---- insert and append: n bytes from the offset b on

pub record Inserted (S : Slices) (b n : ℕ) (r : Reply) (T : Slices) : Type 0 where
  pub promise : Promise S (insert b n) r T
  -- T2: whatever is in the slices, the answer says how many of the bytes are used, and the table says so
  pub recorded : (v : ℕ) → r ≡ yes v → (v ≤ n) × Recorded S T (first_grain half b) b v
  -- T6: whatever is in the slices, it is refused with 6 exactly where the table has no room for a region
  pub full_exactly : (r ≡ not 6 → Full S) × (Full S → r ≡ not 6)
  -- T6: on slices that stand for a heap, with room in the table, it is refused with 4 exactly where the whole grains among the
  -- bytes are fewer than two, or one of them was given before; and else it is never refused
  pub refused_exactly : (h : Heap) → Stand S h → (Full S → ⊥) → (r ≡ not 4 → Bare h.blocks (first_grain half b) (whole_grains half b n) → ⊥)
      × ((Bare h.blocks (first_grain half b) (whole_grains half b n) → ⊥) → r ≡ not 4)
  pub bare_given : (h : Heap) → Stand S h → (Full S → ⊥) → Bare h.blocks (first_grain half b) (whole_grains half b n) → (i : ℕ) → r ≡ not i → ⊥

pub record Appended (S : Slices) (b n : ℕ) (r : Reply) (T : Slices) : Type 0 where
  pub promise : Promise S (append b n) r T
  pub recorded : (v : ℕ) → r ≡ yes v → (v ≤ n) × Recorded S T (b / grain) b v
  pub full_exactly : (r ≡ not 6 → Full S) × (Full S → r ≡ not 6)
  -- T6: the same, and where no region ended at b
  pub refused_exactly : (h : Heap) → Stand S h → (Full S → ⊥) → (r ≡ not 4 → Bare h.blocks (b / grain) (following b n) → Ended h.blocks (b / grain) → ⊥)
      × ((Bare h.blocks (b / grain) (following b n) → Ended h.blocks (b / grain) → ⊥) → r ≡ not 4)
  pub bare_given : (h : Heap) → Stand S h → (Full S → ⊥) → Bare h.blocks (b / grain) (following b n) → Ended h.blocks (b / grain) → (i : ℕ) → r ≡ not i → ⊥

-- ---- init: an empty heap

pub record Initialised (S : Slices) (r : Reply) (T : Slices) : Type 0 where
  -- T1: refused with 6 exactly where a table is too short, or the tables are those of the empty heap
  pub exact : Begins S r T
  pub unchanged : (i : ℕ) → r ≡ not i → T ≡ S
  pub lengths : Lengths S T
  pub numbers : (i : ℕ) → r ≡ not i → i ≡ 6
  -- T4: the slices stand for the heap to which nothing was given, whatever was in them
  pub stands : (v : ℕ) → r ≡ yes v → Stand T (empty (grains_of T))
