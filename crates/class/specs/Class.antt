-- The list of a block of s grains (`list_of`), and the list where a search for s grains starts (`start_of`).
--
-- There is one list number k = 16 * fl + sl. Counted in sixteenths of a grain, the lists' least sizes are 16, 17 .. 31,
-- then 32, 34 .. 62, then 64, 68 .. and so on: `floor k` = (16 + k % 16) * 2 ^ (k / 16). A size belongs to the list with
-- the greatest floor that isn't above it; a search starts at the list with the least floor that isn't below it. Both are
-- one expression, rounded down or up, with no case and no carry. Neither the size of a grain nor the number of lists
-- occurs: with n first-level classes the lists are those below 16 * n, and 16 * n stands for none.
use Rattle.std.specs.Prelude.{ℕ, ◌+◌, ◌-◌, ◌*◌, ◌/◌, ◌%◌, ◌^◌}
-- the logarithm of two, with its laws, is passed on
unfoldable pub use Rattle.class.specs.Log.{log, logs}

-- the least size of list k, in sixteenths of a grain
unfoldable pub floor : ℕ → ℕ
floor k = (16 + k % 16) * 2 ^ (k / 16)

-- the list of s grains
unfoldable pub list_of : ℕ → ℕ
unfolding log
list_of s = 16 * log s + 16 * s / 2 ^ log s - 16

-- where a search for s grains starts
unfoldable pub start_of : ℕ → ℕ
unfolding log
start_of s = 16 * log s + (16 * s + (2 ^ log s - 1)) / 2 ^ log s - 16
