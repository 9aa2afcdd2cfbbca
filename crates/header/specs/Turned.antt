-- A word of bytes turned by five bits: its grains, and where it is between two
-- grains a number that no arena has. So "a multiple of 32" and "inside the arena" are one comparison.
use Rattle.std.specs.Prelude.{ℕ, ◌+◌, ◌*◌, ◌/◌, ◌%◌, ◌≤◌, ◌<◌, ◌≡◌, List, length}
use Rattle.std.proofs.Common.{arith}
use Rattle.slices.specs.Decode.{grains}

unfoldable pub turned : ℕ → ℕ
turned v = v / 32 + v % 32 * 576460752303423488

-- an arena has fewer grains than that
pub grains_few : (a : List ℕ) → length a < 18446744073709551616 → grains 8 a < 576460752303423488
unfolding grains
grains_few a h = omega arith

-- a word that leads to a grain of an arena of n
pub turned_in : (n v : ℕ) → n < 576460752303423488 → turned v < n → (v % 32 ≡ 0) × (turned v ≡ v / 32)
unfolding turned
turned_in n v f h = (omega arith, omega arith)

pub turned_out : (n v : ℕ) → n ≤ turned v → v % 32 ≡ 0 → n ≤ v / 32
unfolding turned
turned_out n v h e = omega arith

pub turned_is : (g : ℕ) → turned (32 * g) ≡ g
unfolding turned
turned_is g =
    let a : 32 * g / 32 ≡ g = omega arith in
    let b : 32 * g % 32 ≡ 0 = omega arith in
    rw (a, b) (omega arith)

-- it is no longer than the word
pub turned_fits : (v : ℕ) → v < 18446744073709551616 → v / 32 + v % 32 * 576460752303423488 < 18446744073709551616
turned_fits v h =
    let a : v / 32 < 576460752303423488 = omega arith in
    let b : v % 32 ≤ 31 = omega arith in
    fits (v / 32) (v % 32) a b
  where
    fits : (q r : ℕ) → q < 576460752303423488 → r ≤ 31 → q + r * 576460752303423488 < 18446744073709551616
    fits q r a b = omega arith
