-- What the contracts and the laws speak of: the lent slices read as a memory (`held`), what a check answers, and how long the
-- slices must be (`Enough`).
use Rattle.std.specs.Prelude.{ℕ, ◌+◌, ◌≤◌, ◌<◌, Bool, true, false, List, length}
use Rattle.script.specs.Memory.{Memory}
use Rattle.script.specs.Script.{Result, ok, no}
use Rattle.machine.specs.Machine.{map_words}
use Rattle.machine.specs.Machine.{lists as list_count}
use Rattle.lent.specs.Slices.{Slices, grains, memory_of}

-- ---- the lent slices

abbrev pub slices : List ℕ → List ℕ → List ℕ → List ℕ → Slices
slices a l t g = record { arena = a; lists = l; tags = t; regions = g }

-- as a memory
abbrev pub held : List ℕ → List ℕ → List ℕ → List ℕ → Memory
held a l t g = memory_of (slices a l t g)

-- the lists have a map and heads
abbrev pub Long : List ℕ → Type 0
Long l = map_words + list_count ≤ length l

-- and every grain and the end has a tag
pub record Enough (a l t : List ℕ) : Type 0 where
  pub lists : Long l
  pub tags : grains a < length t

-- ---- answers

-- x where a check passed, else refusal 5
abbrev pub answer : {A : Type 0} → Bool → A → Result A
answer true x = ok x
answer false x = no 5

-- a check that answers nothing more
abbrev pub verdict : Bool → Result (Unit {0})
verdict r = answer r (tt {0})

-- ---- choices

-- x or y
abbrev pub chosen : Bool → ℕ → ℕ → ℕ
chosen true x y = x
chosen false x y = y
