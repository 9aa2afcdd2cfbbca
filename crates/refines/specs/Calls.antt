-- All calls at once, on a sound memory: each does what the definition says (T4), when each is refused (T6), and that damage which
-- a call does not read stays where it is (T10).
use Rattle.std.specs.Prelude.{ℕ, ◌*◌, ◌<◌, ◌≡◌, []}
use Rattle.definition.specs.Calls.{Heap, Answer, take, give_back, resize, insert, append}
use Rattle.invariants.specs.NotLive.{NotLive}
use Rattle.script.specs.Script.{no, run}
use Rattle.plans.specs.Reallocate.{reallocate_script}
use Rattle.plans.specs.Calls.{Call, Allocate, Deallocate, Reallocate, Insert, Append}

-- what the definition answers
abbrev pub answer_of : (c : ℕ) → Call → Heap → Answer
answer_of c (Allocate p a) h = take c h p a
answer_of c (Deallocate q) h = give_back h q
answer_of c (Reallocate q p a) h = resize c h q p a
answer_of c (Insert g len) h = insert c h g len
answer_of c (Append g len) h = append c h g len

-- whether it asks for a region, which needs room in the table
abbrev pub NeedsRoom : Call → Type 0
NeedsRoom (Allocate p a) = ⊥
NeedsRoom (Deallocate q) = ⊥
NeedsRoom (Reallocate q p a) = ⊥
NeedsRoom (Insert g len) = Unit {0}
NeedsRoom (Append g len) = Unit {0}
