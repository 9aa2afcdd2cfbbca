-- What a tag says: `Says b i v` lists the ways in which v can be the tag of grain i of the block b. And `grain`: each
-- grain of a list belongs to one block, of which its tag says one of these.
use Rattle.std.specs.Prelude.{ℕ, suc, ◌+◌, ◌*◌, ◌≤◌, ◌<◌, ◌≡◌, List}
use Rattle.definition.specs.Blocks.{Block, free, used, last, size}
use Rattle.invariants.specs.Order.{BlockAt}
use Rattle.tags.specs.Tag.{free_tag, end_tag, small_tag, large_tag, start_tag, pad_tag}

pub data Says (b : Block) (i v : ℕ) : Type 0 where
  free_first : (s : ℕ) → b ≡ free s → i ≡ 0 → v ≡ free_tag s → Says b i v
  free_last : (s : ℕ) → b ≡ free s → 1 ≤ i → suc i ≡ s → v ≡ end_tag s → Says b i v
  small : (s : ℕ) → b ≡ used s 1 → i ≡ 0 → v ≡ small_tag s → Says b i v
  large : (s : ℕ) → b ≡ used s 2 → i ≡ 0 → v ≡ large_tag s → Says b i v
  wide : (s p : ℕ) → b ≡ used s (2 * p) → 2 ≤ p → p ≤ s → i ≡ 0 → v ≡ start_tag s → Says b i v
  pad : (s p : ℕ) → b ≡ used s (2 * p) → 2 ≤ p → p ≤ s → suc i ≡ p → v ≡ pad_tag p → Says b i v
  sentinel : b ≡ last → i ≡ 0 → v ≡ start_tag 1 → Says b i v
  inner : v ≡ 0 → Says b i v

-- ---- the block of a grain

-- the block b at x, of a list that begins at p, has the grain y
pub record Covers (y p : ℕ) (xs : List Block) : Type 0 where
  pub x : ℕ
  pub b : Block
  pub at : BlockAt x b p xs
  pub low : x ≤ y
  pub high : y < x + size b

-- the grain y is grain i of the block b at x, and its tag says so
pub record Grain (t : ℕ → ℕ) (y : ℕ) (xs : List Block) : Type 0 where
  pub x : ℕ
  pub b : Block
  pub i : ℕ
  pub at : BlockAt x b 0 xs
  pub place : y ≡ x + i
  pub says : Says b i (t y)
