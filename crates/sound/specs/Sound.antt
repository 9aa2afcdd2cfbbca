-- `Sound n c m h`: the memory m of an arena of n grains stands for the heap h, with c first-level classes.
use Rattle.std.specs.Prelude.{ℕ, ◌+◌, ◌-◌, ◌*◌, ◌/◌, ◌%◌, ◌≤◌, ◌<◌, ◌≡◌, List, ◌⊎◌}
use Rattle.definition.specs.Blocks.{Block, used, gap, total}
use Rattle.definition.specs.Calls.{Heap}
use Rattle.invariants.specs.Order.{BlockAt}
use Rattle.invariants.specs.Moves.{Ok}
use Rattle.script.specs.Memory.{Memory, Size, Before, Prev, Live, Table, none}
use Rattle.sound.specs.Row.{Row}
use Rattle.sound.specs.Strung.{Strung}

-- the live bits are those of the payloads
pub record Lively (m : Memory) (xs : List Block) : Type 0 where
  pub set : (x s d : ℕ) → BlockAt x (used s d) 0 xs → m Live (2 * x + d) ≡ 1
  pub real : (q : ℕ) → m Live q ≡ 1 → (x : ℕ) × (s : ℕ) × (d : ℕ) × BlockAt x (used s d) 0 xs × (q ≡ 2 * x + d)

-- before a payload that stands at a grain, its block's own grain is written
abbrev pub Padded : Memory → List Block → Type 0
Padded m xs = (x s d : ℕ) → BlockAt x (used s d) 0 xs → d % 2 ≡ 0 → m Prev (x + d / 2 - 1) ≡ x

-- the regions of the table: grain y is in one of them
abbrev pub InTable : Memory → ℕ → Type 0
InTable m y = (i : ℕ) × (i < m Table 0) × (m Table (2 * i + 1) ≤ y) × (y < m Table (2 * i + 2))

-- the grains that were not given are those outside the regions
pub record Given (m : Memory) (xs : List Block) : Type 0 where
  pub sane : (i : ℕ) → i < m Table 0 → (m Table (2 * i + 1) + 2 ≤ m Table (2 * i + 2)) × (m Table (2 * i + 2) ≤ total xs)
  pub either : (y : ℕ) → y < total xs → BlockAt y gap 0 xs ⊎ InTable m y
  pub never : (y : ℕ) → BlockAt y gap 0 xs → InTable m y → ⊥

pub record Sound (n c : ℕ) (m : Memory) (h : Heap) : Type 0 where
  pub heap : Ok c h
  pub whole : total h.blocks ≡ n
  pub small : n ≤ none
  pub row : Row (m Size) (m Before) 0 none h.blocks
  pub strung : Strung m h.lists
  pub lively : Lively m h.blocks
  pub padded : Padded m h.blocks
  pub given : Given m h.blocks
