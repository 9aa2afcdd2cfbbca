-- T5: any number of calls, one after the other. In memory each call's script is run; what a granted one plans is written,
-- and a refused one changes nothing. From a sound memory the answers are the definition's, one by one, and the memory at
-- the end stands for the heap at the end. By induction over the calls.
use Rattle.std.specs.Prelude.{ℕ, ◌+◌, List, [], ◌∷◌}
use Rattle.definition.specs.Calls.{Heap, Answer, refused, granted}
use Rattle.invariants.specs.Placing.{Align}
use Rattle.script.specs.Memory.{Memory, apply}
use Rattle.script.specs.Script.{Result, ok, no, run}
use Rattle.sound.specs.Plans.{Plan}
use Rattle.sound.specs.Meets.{number}
use Rattle.sound.specs.Calls.{Call, Take, Return, Resize, Give, Append, script_of, answer_of, Fair}

-- what the caller hears: a number, or a refusal's number
pub data Reply : Type 0 where
  yes : ℕ → Reply
  not : ℕ → Reply

-- ---- in memory

-- what is heard of one call
abbrev pub reply : Result Plan → Reply
reply (ok t) = yes t.answer
reply (no i) = not i

-- what it leaves
abbrev pub written : Memory → Result Plan → Memory
written m (ok t) = apply m t.writes
written m (no i) = m

-- an arena of n grains, c first-level classes, a table of at most `most` regions
module _ (n c most : ℕ) where
  -- the memory after one call
  abbrev pub after : Memory → Call → Memory
  after m k = written m (run m (script_of n c most k))

  -- what is heard, call by call
  abbrev pub replies : Memory → List Call → List Reply
  replies m [] = []
  replies m (k ∷ l) = reply (run m (script_of n c most k)) ∷ replies (after m k) l

  -- the memory at the end
  abbrev pub end : Memory → List Call → Memory
  end m [] = m
  end m (k ∷ l) = end (after m k) l

  -- each call is fair where it comes
  abbrev pub FairRun : Memory → List Call → Type 0
  FairRun m [] = Unit {0}
  FairRun m (k ∷ l) = Fair m most k × FairRun (after m k) l

-- ---- in the definition

-- what is heard of one answer, and the heap that it leaves
abbrev pub said : Answer → Reply
said (refused w) = not (number w)
said (granted v g) = yes v

abbrev pub left : Heap → Answer → Heap
left h (refused w) = h
left h (granted v g) = g

-- and of all, one after the other
abbrev pub answers : ℕ → Heap → List Call → List Reply
answers c h [] = []
answers c h (k ∷ l) = said (answer_of c k h) ∷ answers c (left h (answer_of c k h)) l

abbrev pub heap_end : ℕ → Heap → List Call → Heap
heap_end c h [] = h
heap_end c h (k ∷ l) = heap_end c (left h (answer_of c k h)) l

-- ---- fair from the start: alignments that are ones, and a table with room for all regions

-- the alignment, where a call has one
abbrev pub Aligned : Call → Type 0
Aligned (Take p a) = Align a
Aligned (Return q) = Unit {0}
Aligned (Resize q p a) = Align a
Aligned (Give g len) = Unit {0}
Aligned (Append g len) = Unit {0}

abbrev pub AllAligned : List Call → Type 0
AllAligned [] = Unit {0}
AllAligned (k ∷ l) = Aligned k × AllAligned l

-- how many regions are asked for
abbrev pub regions_of : Call → ℕ
regions_of (Take p a) = 0
regions_of (Return q) = 0
regions_of (Resize q p a) = 0
regions_of (Give g len) = 1
regions_of (Append g len) = 1

abbrev pub regions_in : List Call → ℕ
regions_in [] = 0
regions_in (k ∷ l) = regions_of k + regions_in l
