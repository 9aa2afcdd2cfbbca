-- What the code of this crate needs to know so that its shifts, sums and differences lose nothing. No other crate uses it.
use Rattle.std.specs.Prelude.{ℕ, ◌+◌, ◌-◌, ◌*◌, ◌/◌, ◌%◌, ◌^◌, ◌≤◌, ◌<◌, ◌≡◌}

-- rounding down
pub record FitsDown (s f : ℕ) : Type 0 where
  pub shift : f < 60
  pub low : 16 ≤ 16 * s / 2 ^ f
  pub high : 16 * s / 2 ^ f < 32

-- rounding up
pub record FitsUp (s f : ℕ) : Type 0 where
  pub shift : f < 59
  pub one : (1 * 2 ^ f) % 2 ^ 64 ≡ 2 ^ f
  pub some : 0 < 2 ^ f
  pub within : 2 ^ f ≤ s
  pub low : 16 ≤ (16 * s + (2 ^ f - 1)) / 2 ^ f
  pub high : (16 * s + (2 ^ f - 1)) / 2 ^ f ≤ 32
