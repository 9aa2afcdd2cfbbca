-- Where a payload is placed in its block, and how much the block keeps for it: always at a multiple of the alignment,
-- behind the header, inside the block, and never more than was looked for.
use Rattle.std.specs.Prelude.{ℕ, ◌+◌, ◌-◌, ◌*◌, ◌%◌, ◌≤◌, ◌<◌, ◌≡◌, ◌⊎◌}
use Rattle.std.proofs.Common.{div-mul-le_self, arith}
use Rattle.definition.specs.Calls.{place}

-- an alignment, in half grains: one, or even
abbrev pub Align : ℕ → Type 0
Align a = (a ≡ 1) ⊎ ((0 < a) × (a % 2 ≡ 0))

-- ---- the place

-- at most the alignment further
pub place_most : (a x : ℕ) → 0 < a → place a x ≤ a
place_most a x h = omega (arith, div-mul-le_self (2 * x + 1 + (a - 1)) a)
