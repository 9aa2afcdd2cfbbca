-- Which numbers a call can be refused with, in the order in which they are tested.
use Rattle.std.specs.Prelude.{ℕ, List, [], ◌∷◌}
use Rattle.promises.specs.Bytes.{ByteCall, allocate, deallocate, reallocate, insert, append}

abbrev pub refusals : ByteCall → List ℕ
refusals (allocate n a) = 6 ∷ 2 ∷ 5 ∷ 1 ∷ []
refusals (deallocate x) = 6 ∷ 3 ∷ 5 ∷ []
refusals (reallocate x n a) = 6 ∷ 2 ∷ 3 ∷ 5 ∷ 1 ∷ []
refusals (insert b n) = 6 ∷ 4 ∷ 5 ∷ []
refusals (append b n) = 6 ∷ 4 ∷ 5 ∷ []
