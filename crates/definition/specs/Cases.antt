-- Recorded answers of rlsf 0.2.3 where a description in words says little, by computation. Bytes, half grains of 16; a refusal is
-- shown by its number, a granted return by 0.
use Rattle.std.specs.Prelude.{ℕ, ◌*◌, List, [], ◌∷◌}
use Rattle.definition.specs.Calls.{no_list, not_live, no_region, empty}
use Rattle.definition.specs.Run.{Call, Row, no, row, run, after}

unfoldable pub number : Row → ℕ
number (no no_list) = 1
number (no not_live) = 3
number (no no_region) = 4
number (row v f) = v

unfoldable pub numbers : List Row → List ℕ
unfolding number
numbers [] = []
numbers (r ∷ l) = number r ∷ numbers l

-- the answers of an arena of n grains
unfoldable pub says : ℕ → List Call → List ℕ
unfolding numbers run empty
says n l = numbers (run (empty n) l)

-- list k after the calls, in bytes
unfoldable pub bytes : List ℕ → List ℕ
bytes [] = []
bytes (x ∷ l) = 32 * x ∷ bytes l

unfoldable pub list_after : ℕ → List Call → ℕ → List ℕ
unfolding bytes after empty
list_after n l k = bytes ((after (empty n) l).lists k)
