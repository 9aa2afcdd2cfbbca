-- Take and return write only what can be stored, on any memory that a decoder may show; and what a take hands out is inside
-- the arena, behind a header.
use Rattle.std.specs.Prelude.{ℕ, ◌+◌, ◌*◌, ◌<◌, ◌≡◌}
use Rattle.class.specs.Class.{list_of}
use Rattle.definition.specs.Calls.{place}
use Rattle.sound.specs.Checks.{Beside, nobody, somebody}
use Rattle.sound.specs.Writable.{Link}

-- ---- take

-- a payload at q whose place was counted, for the alignment a, from some block's start
abbrev pub Counted : ℕ → ℕ → Type 0
Counted a q = (y : ℕ) × (q ≡ 2 * y + place a y)

-- ---- what stands beside a used block

-- a free neighbour has a list, and its neighbours there are links
abbrev pub Joined : ℕ → ℕ → Beside → Type 0
Joined n c nobody = Unit {0}
Joined n c (somebody t e) = (list_of t < 16 * c) × Link n e.next × Link n e.prev
