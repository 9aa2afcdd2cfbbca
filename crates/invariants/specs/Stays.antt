-- Every call keeps what holds of every heap (T8), and take, return and resize keep the pieces: no grain of a region is lost,
-- and none is won. Said once for every answer: a refusal changes nothing, and what is granted is so.
use Rattle.std.specs.Prelude.{ℕ, ◌≡◌}
use Rattle.definition.specs.Calls.{Heap, Answer, refused, granted}
use Rattle.invariants.specs.Pieces.{pieces}
use Rattle.invariants.specs.Moves.{Ok}

-- the heap that was granted is in order, and has the pieces that h had
abbrev pub Keeps : ℕ → Heap → Answer → Type 0
Keeps c h (refused w) = Unit {0}
Keeps c h (granted v k) = Ok c k × (pieces 0 k.blocks ≡ pieces 0 h.blocks)
