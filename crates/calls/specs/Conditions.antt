-- T6 of the calls on slices that stand for a heap: none is refused with 5; a take is refused with 1 exactly by document 01's
-- condition; a payload is given back exactly where it is live, and else refused with 3; and one that is resized is refused
-- with 3 where it is not live, and with 1 exactly where there is room neither beside it nor elsewhere.
use Rattle.std.specs.Prelude.{ℕ, ◌*◌, ◌≤◌, ◌<◌, ◌≡◌, []}
use Rattle.class.specs.Class.{start_of}
use Rattle.definition.specs.Blocks.{free}
use Rattle.definition.specs.Units.{halves, multiple}
use Rattle.definition.specs.Calls.{Heap, wanted}
use Rattle.invariants.specs.Order.{BlockAt}
use Rattle.sound.specs.Runs.{not}

-- ---- take

-- every list from where the search for n bytes at a multiple of a starts is empty
abbrev pub NoList : Heap → ℕ → ℕ → Type 0
NoList h n a = (j : ℕ) → start_of (wanted (halves 16 n) (multiple 16 a)) ≤ j → j < 192 → h.lists j ≡ []
