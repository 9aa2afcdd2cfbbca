-- The terms of the promises: the bytes of a payload, where a payload is, what is granted, and what holds of a call on slices
-- of which only the tags and the table of regions are right.
use Rattle.std.specs.Prelude.{ℕ, zero, suc, ◌+◌, ◌-◌, ◌*◌, ◌/◌, ◌%◌, ◌≤◌, ◌<◌, ◌≡◌, List, [], ◌∷◌, ◌⊎◌, length, get_or}
use Rattle.class.specs.Class.{start_of}
use Rattle.table.specs.Table.{entry}
use Rattle.definition.specs.Blocks.{Block, free, used, last, gap, total}
use Rattle.definition.specs.Units.{halves, multiple}
use Rattle.definition.specs.Lists.{Lists}
use Rattle.definition.specs.Calls.{Heap, wanted}
use Rattle.invariants.specs.Order.{BlockAt}
use Rattle.invariants.specs.Promises.{Granted}
use Rattle.invariants.specs.Resized.{Resized}
use Rattle.script.specs.Memory.{Write}
use Rattle.script.specs.Script.{ok}
use Rattle.script.specs.Locality.{Reads, DiffersIn}
use Rattle.request.specs.Returned.{Stands}
use Rattle.machine.specs.Machine.{half, grain, classes, map_words}
use Rattle.machine.specs.Machine.{lists as list_count}
use Rattle.plans.specs.Deeds.{Plan, writes}
use Rattle.plans.specs.Calls.{Call, Reallocate, script_of}
use Rattle.armour.specs.Calls.{Possible}
use Rattle.refines.specs.Runs.{Reply, yes, not}
use Rattle.lent.specs.Slices.{Slices, memory_of, stores}
use Rattle.lent.specs.Kept.{Lengths}
use Rattle.promises.specs.Bytes.{ByteCall, allocate, deallocate, reallocate, insert, append, Asks, bytes}
use Rattle.lent.specs.Shifted.{carried_out}
use Rattle.promises.specs.Performs.{grains_of, most_of, AllLong, outcome, Performs, Rowed, Stand, model_of, Defines}

-- ---- slices

-- T has the tables of S
pub record SameTables (S T : Slices) : Type 0 where
  pub lists : T.lists ≡ S.lists
  pub tags : T.tags ≡ S.tags
  pub regions : T.regions ≡ S.regions

-- byte j is the same in the arenas of S and T
abbrev pub SameAt : Slices → Slices → ℕ → Type 0
SameAt S T j = get_or T.arena j 0 ≡ get_or S.arena j 0

-- ---- payloads

-- byte j is one of the payload of a block of s grains at y, placed at d
abbrev pub InPayload : ℕ → ℕ → ℕ → ℕ → Type 0
InPayload j y s d = (half * (2 * y + d) ≤ j) × (j < grain * (y + s))

-- the call doesn't give back or resize the payload at v, counted in half grains
abbrev pub Other : ByteCall → ℕ → Type 0
Other (allocate n a) v = Unit {0}
Other (deallocate x) v = x ≡ half * v → ⊥
Other (reallocate x n a) v = x ≡ half * v → ⊥
Other (insert b n) v = Unit {0}
Other (append b n) v = Unit {0}

-- a block in use has its payload at the offset x
pub record Holds (xs : List Block) (x y s d : ℕ) : Type 0 where
  pub block : BlockAt y (used s d) 0 xs
  pub offset : x ≡ half * (2 * y + d)

-- none has
abbrev pub Dead : List Block → ℕ → Type 0
Dead xs x = (y s d : ℕ) → Holds xs x y s d → ⊥

-- every list from where the search for n bytes at a multiple of a starts is empty
abbrev pub NoList : Heap → ℕ → ℕ → Type 0
NoList h n a = (j : ℕ) → start_of (wanted (halves half n) (multiple half a)) ≤ j → j < list_count → h.lists j ≡ []

-- the table of the regions is too short, or full; or another table is too short
abbrev pub Full : Slices → Type 0
Full S = (AllLong S → ⊥) ⊎ (entry S.regions 0 ≡ most_of S)

-- the len grains from g on are at least two, and none of them was ever given
pub record Bare (xs : List Block) (g len : ℕ) : Type 0 where
  pub two : 2 ≤ len
  pub gaps : (y : ℕ) → g ≤ y → y < g + len → BlockAt y gap 0 xs

-- a region ended before grain g
pub record Ended (xs : List Block) (g : ℕ) : Type 0 where
  pub some : 1 ≤ g
  pub sentinel : BlockAt (g - 1) last 0 xs

-- the table of T has one more region than that of S: from grain g on, up to v bytes after the offset b
pub record Recorded (S T : Slices) (g b v : ℕ) : Type 0 where
  pub count : entry T.regions 0 ≡ suc (entry S.regions 0)
  pub first : entry T.regions (2 * entry S.regions 0 + 1) ≡ g
  pub end : grain * entry T.regions (2 * entry S.regions 0 + 2) ≡ b + v

-- byte j is in no grain that was ever given
abbrev pub Ungiven : List Block → ℕ → Type 0
Ungiven xs j = BlockAt (j / grain) gap 0 xs ⊎ (total xs ≤ j / grain)

-- ---- what is granted

-- on any slices: n bytes at the offset x, for the alignment a
pub record Within (S : Slices) (n a x : ℕ) : Type 0 where
  pub low : half ≤ x
  pub inside : x + n ≤ length S.arena
  pub aligned : x % a ≡ 0
  pub returnable : Stands x a (x / half)

-- on slices that stand for a heap: a part of what was free, inside its block; all blocks in use stay, and it is the only new one
pub record Handed (h : Heap) (n a x : ℕ) (T : Slices) : Type 0 where
  pub heap : Heap
  pub stands : Stand T heap
  pub payload : ℕ
  pub granted : Granted classes h (halves half n) (multiple half a) payload heap
  pub offset : x ≡ half * payload
  pub long : x + n ≤ grain * (granted.x + granted.s)

-- the payload of the block of s grains at y, with its place d, is at the offset z now, with n bytes at a multiple of a
pub record Rehoused (h : Heap) (y s d n a z : ℕ) (T : Slices) : Type 0 where
  pub heap : Heap
  pub stands : Stand T heap
  pub payload : ℕ
  pub resized : Resized classes h y s d (halves half n) (multiple half a) payload heap
  pub offset : z ≡ half * payload
  pub long : z + n ≤ grain * (resized.start + resized.grains)

-- ---- how much is read and written

-- a word as it is decoded: field f at y
pub record Word : Type 0 where
  pub field : ℕ
  pub place : ℕ

abbrev pub AgreeOn : List Word → Slices → Slices → Type 0
AgreeOn [] S Q = Unit {0}
AgreeOn (w ∷ l) S Q = (memory_of Q w.field w.place ≡ memory_of S w.field w.place) × AgreeOn l S Q

-- the words of the map are the same, where it is searched i times
abbrev pub SameMap : ℕ → Slices → Slices → Type 0
SameMap zero S Q = Unit {0}
SameMap (suc i) S Q = (j : ℕ) → j < map_words → entry Q.lists j ≡ entry S.lists j

-- at most n words decide what is refused, answered and written, beside the map where it is searched
pub record Decided (i n : ℕ) (S : Slices) (K : Call) : Type 0 where
  pub words : List Word
  pub few : length words ≤ n
  pub decide : (Q : Slices) → Lengths S Q → AgreeOn words S Q → SameMap i S Q → outcome Q K ≡ outcome S K

-- at most i words are stored
abbrev pub Stores : ℕ → Slices → Slices → Type 0
Stores i S T = (w : List Write) × (T ≡ stores S w) × (length w ≤ i)

-- at most i words are stored, and in the middle of that at most n bytes are moved, once
pub record Carries (i n : ℕ) (S T : Slices) : Type 0 where
  pub payload : ℕ
  pub plan : Plan
  pub is : T ≡ carried_out S payload plan
  pub words : length (writes plan) ≤ i
  pub bytes : half * plan.moved ≤ n

-- ---- T4

-- the definition's reply, and slices that stand for its heap
pub record Refined (S : Slices) (h : Heap) (k : ByteCall) (r : Reply) (T : Slices) : Type 0 where
  pub heap : Heap
  pub defined : Defines (most_of S) (model_of S h) k r (model_of T heap)
  pub stands : Stand T heap

-- ---- T5

-- between two calls the callers write where they like, but in no table, and not in the first half grain of a block xs: so into
-- their payloads, and into grains that were never given
pub record Fills (xs : List Block) (S T : Slices) : Type 0 where
  pub size : length T.arena ≡ length S.arena
  pub frees : (x s : ℕ) → BlockAt x (free s) 0 xs → (j : ℕ) → grain * x ≤ j → j < grain * x + half → SameAt S T j
  pub useds : (x s d : ℕ) → BlockAt x (used s d) 0 xs → (j : ℕ) → grain * x ≤ j → j < grain * x + half → SameAt S T j
  pub tables : SameTables S T

-- ---- T10

-- the call reads no word of D
abbrev pub ReadsNone : (ℕ → ℕ → Type 0) → Slices → ByteCall → Type 0
ReadsNone D S k = (K : Call) → Asks k K → (g y : ℕ) → Reads (memory_of S) (script_of (grains_of S) classes (most_of S) K) g y → D g y → ⊥

-- and the bytes that it moves are the same in both: those of a payload that is resized and has to go to another place
abbrev pub MovesSame : Slices → Slices → ByteCall → Type 0
MovesSame S Q (allocate n a) = Unit {0}
MovesSame S Q (deallocate x) = Unit {0}
MovesSame S Q (reallocate x n a) = (t : Plan) → outcome S (Reallocate (x / half) (halves half n) (multiple half a)) ≡ ok t
    → (i : ℕ) → i < half * t.moved → SameAt S Q (half * (x / half) + i)
MovesSame S Q (insert b n) = Unit {0}
MovesSame S Q (append b n) = Unit {0}

-- what the call does on the damaged slices: the same reply, and no more damage
pub record Contains (D : ℕ → ℕ → Type 0) (T Q : Slices) (k : ByteCall) (r : Reply) : Type 0 where
  pub after : Slices
  pub same : Performs Q k r after
  pub differs : DiffersIn D (memory_of T) (memory_of after)

-- ---- T11

-- blocks that the call can leave of xs: those from before, or those of an answer that the definition can give
pub data Leaves (xs : List Block) (f : Lists) (k : ByteCall) : Reply → List Block → Type 0 where
  same : (i : ℕ) → Leaves xs f k (not i) xs
  other : (K : Call) (v : ℕ) (g : Heap) → Asks k K → Possible classes (record { blocks = xs; lists = f }) K v g → Leaves xs f k (yes (bytes k v)) g.blocks

-- n bytes at the offset x, a multiple of a, are in the payload of a block in use
pub record Lends (ys : List Block) (n a x : ℕ) : Type 0 where
  pub block : ℕ
  pub grains : ℕ
  pub place : ℕ
  pub holds : Holds ys x block grains place
  pub aligned : x % a ≡ 0
  pub long : x + n ≤ grain * (block + grains)

-- what was answered is lent
abbrev pub Lent : ByteCall → ℕ → List Block → Type 0
Lent (allocate n a) x ys = Lends ys n a x
Lent (deallocate x) z ys = Dead ys x
Lent (reallocate x n a) z ys = Lends ys n a z
Lent (insert b n) x ys = Unit {0}
Lent (append b n) x ys = Unit {0}

-- the payload at v, counted in half grains, is the one that was answered
abbrev pub New : ByteCall → ℕ → ℕ → Type 0
New (allocate n a) x v = x ≡ half * v
New (deallocate x) z v = ⊥
New (reallocate x n a) z v = z ≡ half * v
New (insert b n) x v = ⊥
New (append b n) x v = ⊥

-- the tags and the table of regions were those of the blocks xs. Now they are those of blocks that the definition can leave
pub record Armour (S : Slices) (k : ByteCall) (r : Reply) (T : Slices) (xs : List Block) (f : Lists) : Type 0 where
  pub blocks : List Block
  pub leaves : Leaves xs f k r blocks
  pub row : Rowed T blocks
  -- every block in use stays, but for the one that the call is about
  pub stays : (y s d : ℕ) → BlockAt y (used s d) 0 xs → Other k (2 * y + d) → BlockAt y (used s d) 0 blocks
  -- what was answered is lent, and it was not lent before
  pub lends : (x : ℕ) → r ≡ yes x → Lent k x blocks
  pub fresh : (x : ℕ) → r ≡ yes x → (y s d : ℕ) → BlockAt y (used s d) 0 xs → Other k (2 * y + d) → New k x (2 * y + d) → ⊥
  -- and no other block is in use
  pub only : (x : ℕ) → r ≡ yes x → (y s d : ℕ) → BlockAt y (used s d) 0 blocks → New k x (2 * y + d) ⊎ (BlockAt y (used s d) 0 xs × Other k (2 * y + d))
