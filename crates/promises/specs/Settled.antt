-- What the plans of the calls say on any memory: where the payload is placed, and that less is moved than was asked for.
use Rattle.std.specs.Prelude.{ℕ, ◌+◌, ◌*◌, ◌<◌, ◌≡◌, ◌⊎◌}
use Rattle.definition.specs.Calls.{place}

-- a place that is counted from a block's start
abbrev pub Counted : ℕ → ℕ → Type 0
Counted a v = (y : ℕ) × (v ≡ 2 * y + place a y)

-- the payload at q, or one that is counted anew; and nothing is moved, or less than the p half grains that were asked for
pub record Settled (q p a answer moved : ℕ) : Type 0 where
  pub from : (answer ≡ q) ⊎ Counted a answer
  pub fewer : (moved ≡ 0) ⊎ (moved < p)
