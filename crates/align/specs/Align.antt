-- Alignments: powers of two, and rounding up and down to a multiple of one. What rounding answers is said by three
-- facts, and the laws below say that only one number meets them: the nearest multiple on that side.
use Rattle.std.specs.Prelude.{ℕ, ◌+◌, ◌%◌, ◌^◌, ◌≤◌, ◌<◌, ◌≡◌}

-- n is a power of two
abbrev pub Power : ℕ → Type 0
Power n = (t : ℕ) × (n ≡ 2 ^ t)

-- r is the first multiple of a at or after x
pub record Rounded (x a r : ℕ) : Type 0 where
  pub multiple : r % a ≡ 0
  pub low : x ≤ r
  pub high : r < x + a

-- r is the last multiple of a at or before x
pub record RoundedDown (x a r : ℕ) : Type 0 where
  pub multiple : r % a ≡ 0
  pub low : x < r + a
  pub high : r ≤ x
