-- From bytes to half grains and grains, for half grains of u bytes: 16 on the crane's controller, where a word has 8.
use Rattle.std.specs.Prelude.{ℕ, ◌+◌, ◌-◌, ◌*◌, ◌/◌, max}

-- a length
abbrev pub halves : ℕ → ℕ → ℕ
halves u n = (n + (u - 1)) / u

-- an alignment, a power of two: below half a grain all are the same
abbrev pub multiple : ℕ → ℕ → ℕ
multiple u a = max 1 (a / u)

-- the grains that lie wholly in the bytes from b on, of which there are n: the first, and how many
abbrev pub first_grain : ℕ → ℕ → ℕ
first_grain u b = (b + (2 * u - 1)) / (2 * u)

abbrev pub whole_grains : ℕ → ℕ → ℕ → ℕ
whole_grains u b n = (b + n) / (2 * u) - first_grain u b
