-- Which numbers a call can be refused with, whatever is in the slices.
use Rattle.std.specs.Prelude.{ℕ, List, [], ◌∷◌}
use Rattle.calls.specs.Bytes.{ByteCall, allocate, deallocate, reallocate, insert, append}

-- in the order in which they are tested
abbrev pub refusals : ByteCall → List ℕ
refusals (allocate n a) = 6 ∷ 2 ∷ 5 ∷ 1 ∷ []
refusals (deallocate x a) = 6 ∷ 2 ∷ 3 ∷ 5 ∷ []
refusals (reallocate x n a) = 6 ∷ 2 ∷ 3 ∷ 5 ∷ 1 ∷ []
refusals (insert x n) = 6 ∷ 4 ∷ 5 ∷ []
refusals (append x n) = 6 ∷ 4 ∷ 5 ∷ []
