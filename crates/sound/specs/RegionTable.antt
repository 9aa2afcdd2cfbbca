-- The table of regions: what looking through it tells on a memory that stands for a heap, and what one more entry does.
use Prim.Native.Nat.{ℕ, suc, ◌+◌, ◌*◌, ◌≤◌, ◌<◌}
use Rattle.std.specs.Prelude.{◌≡◌, List, ◌⊎◌}
use Rattle.definition.specs.Blocks.{Block, gap, total}
use Rattle.invariants.specs.Order.{BlockAt}
use Rattle.script.specs.Memory.{Memory, Table}
use Rattle.script.specs.Script.{Gives}
use Rattle.sound.specs.Sound.{InTable}
use Rattle.sound.specs.RegionPlan.{Looked, see_regions}

-- region j: its first grain and its end
abbrev pub first_of : Memory → ℕ → ℕ
first_of m j = m Table (2 * j + 1)

abbrev pub end_of : Memory → ℕ → ℕ
end_of m j = m Table (2 * j + 2)

-- it lies apart from len grains at g
abbrev pub Off : Memory → ℕ → ℕ → ℕ → Type 0
Off m g len j = (end_of m j ≤ g) ⊎ (g + len ≤ first_of m j)

-- one of the grains lies in one of the regions
pub record Overlap (m : Memory) (g len : ℕ) : Type 0 where
  pub grain : ℕ
  pub low : g ≤ grain
  pub high : grain < g + len
  pub inside : InTable m grain

-- the regions from i on, r of them, lie apart
pub record Passed (n g len : ℕ) (m : Memory) (r i : ℕ) (l : Looked) : Type 0 where
  pub looked : Looked
  pub gives : Gives m (see_regions n g len r i l) looked
  pub right : looked.wrong ≡ l.wrong
  pub clear : (j : ℕ) → i ≤ j → j < i + r → Off m g len j
  pub stays : l.meets ≡ 1 → looked.meets ≡ 1
  pub ends : (j : ℕ) → i ≤ j → j < i + r → end_of m j ≡ g → looked.meets ≡ 1
  pub alone : ((j : ℕ) → i ≤ j → j < i + r → end_of m j ≡ g → ⊥) → looked.meets ≡ l.meets

-- ---- one more entry

-- the table of d is that of m, with one more region from g to e
pub record Longer (m d : Memory) (g e : ℕ) : Type 0 where
  pub count : d Table 0 ≡ suc (m Table 0)
  pub old : (j : ℕ) → j < m Table 0 → (first_of d j ≡ first_of m j) × (end_of d j ≡ end_of m j)
  pub new : (first_of d (m Table 0) ≡ g) × (end_of d (m Table 0) ≡ e)

-- the gaps of zs are those of xs outside the region
pub record Filled (xs zs : List Block) (g e : ℕ) : Type 0 where
  pub same : total zs ≡ total xs
  pub some : g + 2 ≤ e
  pub inside : e ≤ total xs
  pub still : (y : ℕ) → BlockAt y gap 0 xs → (y < g) ⊎ (e ≤ y) → BlockAt y gap 0 zs
  pub was : (y : ℕ) → BlockAt y gap 0 zs → BlockAt y gap 0 xs
  pub gone : (y : ℕ) → BlockAt y gap 0 zs → g ≤ y → y < e → ⊥
