-- The logarithm of two, rounded down: the place of a number's highest set bit. Computed by halving, so that it is fast
-- on closed numbers; known by its two bounds, which no other number meets.
use Rattle.std.specs.Prelude.{ℕ, zero, suc, ◌/◌, true, false, leb}

-- how often s can be halved before it is 1 or less, k times at most. The choice is by cases, so that only the one taken
-- is computed: then k, which is as large as s, costs nothing
unfoldable pub logs : ℕ → ℕ → ℕ
logs zero s = 0
logs (suc k) s = elim (leb s 1) [ true ↦ 0 | false ↦ suc (logs k (s / 2)) ]

-- the place of the highest set bit of s
unfoldable pub log : ℕ → ℕ
unfolding logs
log s = logs s s
