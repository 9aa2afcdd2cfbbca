-- Gaps, the grains that were not given: in front of a list and behind the blocks before; and the spot of n gaps from
-- grain g on, which a region of n grains needs.
use Rattle.std.specs.Prelude.{ℕ, zero, suc, ◌+◌, ◌≡◌, List}
use Rattle.std.proofs.Common.{arith}
use Rattle.definition.specs.Blocks.{Block, total, ◌⟨⟩◌, gaps}

-- ---- gaps, in front of a list and behind the blocks before

-- each is one grain
pub total_gaps : (n : ℕ) (r : List Block) → total (gaps n r) ≡ total r + n
total_gaps zero r = omega arith
total_gaps (suc n) r = omega (arith, total_gaps n r)

-- ---- going there

-- n gaps from grain g on
pub record Spot (g n : ℕ) (xs : List Block) : Type 0 where
  pub before : List Block
  pub rest : List Block
  pub whole : xs ≡ before ⟨⟩ gaps n rest
  pub place : total before ≡ g
