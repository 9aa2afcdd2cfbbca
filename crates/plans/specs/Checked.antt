-- What the checks tell of any memory where they pass.
use Rattle.std.specs.Prelude.{ℕ, ◌+◌, ◌-◌, ◌/◌, ◌%◌, ◌≤◌, ◌<◌, ◌≡◌}
use Rattle.choice.specs.Choice.{if_eq}
use Rattle.script.specs.Memory.{Memory, Next, Prev, Mark}
use Rattle.machine.specs.Machine.{guard_next, guard_prev}
use Rattle.tags.specs.Tag.{Tag, flags, START, FREE, SMALL, free_tag}
use Rattle.chains.specs.Links.{Head}
use Rattle.plans.specs.Checks.{one_if}

-- the tag of grain x says that a free block of s grains starts there
pub record StartsFree (n : ℕ) (m : Memory) (x s : ℕ) : Type 0 where
  pub inside : x < n
  pub some : 1 ≤ s
  pub tag : m Tag x ≡ free_tag s

-- a free block starts at x, of whatever size
abbrev pub FreeTag : ℕ → Memory → ℕ → Type 0
FreeTag n m x = (s : ℕ) × StartsFree n m x s

-- its last grain says so too, and a block that is not free starts after it
pub record WholeFree (n : ℕ) (m : Memory) (x s : ℕ) : Type 0 where
  pub starts : StartsFree n m x s
  pub ends : x + s < n
  pub foot : (m Tag (x + s - 1) % START ≡ FREE) × (m Tag (x + s - 1) / flags ≡ s)
  pub after : (START ≤ m Tag (x + s) % flags) × (m Tag (x + s) % flags ≤ START + SMALL)

-- the block y stands in list k
pub record EntryChecked (n : ℕ) (m : Memory) (k y : ℕ) : Type 0 where
  pub next : FreeTag n m (m Next y)
  pub prev : FreeTag n m (m Prev y)
  pub next_back : m Prev (m Next y) ≡ if_eq (m Next y) y (m Prev y) y
  pub prev_back : m Next (m Prev y) ≡ if_eq (m Prev y) y (m Next y) y
  pub mark : m Mark k ≡ 1
  pub head : one_if (m Head k) y ≡ one_if (m Prev y) y

-- both words of the guard of the used block at x are what they should be
abbrev pub GuardStands : Memory → ℕ → Type 0
GuardStands m x = (m Next x ≡ guard_next x) × (m Prev x ≡ guard_prev x)
