-- The library's conversions between numbers and bytes, of the bytes of a list from a place on: the sums, and so `num`.
use Rattle.std.specs.Prelude.{ℕ, ◌+◌, ◌<◌, ◌≡◌, List, get_or, take, drop}
use Rattle.std.specs.Int.{w32, w64, from_le_bytes}
use Rattle.std.proofs.Common.{add-zero, arith, ◌∙◌}
use Rattle.std.proofs.lemmas.List.{get_or-take, get_or-drop}
use Rattle.word.specs.Number.{num}
use Rattle.word.specs.Spelled.{four, eight, four_is, eight_is}

-- byte k of the n from i on
byte : (l : List ℕ) (i n k : ℕ) → k < n → get_or (take n (drop i l)) k 0 ≡ get_or l (i + k) 0
byte l i n k h = get_or-take n (drop i l) k 0 h ∙ get_or-drop i l k 0

pub four_sum : (l : List ℕ) (i : ℕ) → from_le_bytes w32 (take 4 (drop i l)) ≡ four l i
four_sum l i = rw (byte l i 4 0 (omega arith), byte l i 4 1 (omega arith), byte l i 4 2 (omega arith), byte l i 4 3 (omega arith)) (simp add-zero (omega arith))

pub eight_sum : (l : List ℕ) (i : ℕ) → from_le_bytes w64 (take 8 (drop i l)) ≡ eight l i
eight_sum l i =
    rw (
      byte l i 8 0 (omega arith),
      byte l i 8 1 (omega arith),
      byte l i 8 2 (omega arith),
      byte l i 8 3 (omega arith),
      byte l i 8 4 (omega arith),
      byte l i 8 5 (omega arith),
      byte l i 8 6 (omega arith),
      byte l i 8 7 (omega arith),
    )
    (simp add-zero (omega arith))

pub four_read : (l : List ℕ) (i : ℕ) → from_le_bytes w32 (take 4 (drop i l)) ≡ num 4 l i
four_read l i = four_sum l i ∙ four_is l i

pub eight_read : (l : List ℕ) (i : ℕ) → from_le_bytes w64 (take 8 (drop i l)) ≡ num 8 l i
eight_read l i = eight_sum l i ∙ eight_is l i
