-- The bytes of a payload, and that writes which spare its words leave them as they were.
use Rattle.std.specs.Prelude.{ℕ, ◌+◌, ◌*◌, ◌≤◌, ◌<◌}

-- byte j is one of the payload of a block of s grains at y, placed at d
abbrev pub InPayloadBytes : ℕ → ℕ → ℕ → ℕ → Type 0
InPayloadBytes j y s d = (16 * (2 * y + d) ≤ j) × (j < 32 * (y + s))
