-- The bits of a number: bit j of m (`bit`, 0 or 1), and m with bit i set or cleared (`set_bit`, `clear_bit`).
-- All three are shut: a proof goes by the laws, which say of every bit what became of it.
use Rattle.std.specs.Prelude.{ℕ, ◌/◌, ◌%◌, ◌^◌}
use Rattle.std.specs.Int.Bits.{bit_or, bit_xor}

-- bit j of m
unfoldable pub bit : ℕ → ℕ → ℕ
bit m j = m / 2 ^ j % 2

-- m with bit i set
unfoldable pub set_bit : ℕ → ℕ → ℕ
set_bit m i = bit_or m (2 ^ i)

-- m with bit i cleared: set first, so that the exclusive or takes it away whatever it was
unfoldable pub clear_bit : ℕ → ℕ → ℕ
clear_bit m i = bit_xor (bit_or m (2 ^ i)) (2 ^ i)
