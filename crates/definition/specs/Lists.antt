-- The lists of free blocks, one for each list number: a block is put at the head, and taken from the head, or from
-- within when a neighbour swallows it.
use Rattle.std.specs.Prelude.{ℕ, zero, suc, List, [], ◌∷◌}
use Rattle.choice.specs.Choice.{if_eq, upd}
use Rattle.class.specs.Class.{list_of}
use Rattle.definition.specs.Blocks.{Block, free, used, last, gap}

-- the offsets of the free blocks of each list, the head first
abbrev pub Lists : Type 0
Lists = ℕ → List ℕ

unfoldable pub remove : ℕ → List ℕ → List ℕ
unfolding if_eq
remove x [] = []
remove x (y ∷ l) = if_eq y x l (y ∷ remove x l)

abbrev pub push : ℕ → ℕ → Lists → Lists
push k x f = upd f k (x ∷ f k)

abbrev pub drop : ℕ → ℕ → Lists → Lists
drop k x f = upd f k (remove x (f k))

-- the lists without the free block, at y, that stands first in l
abbrev pub skip : List Block → ℕ → Lists → Lists
skip [] y f = f
skip (free s ∷ l) y f = drop (list_of s) y f
skip (used s d ∷ l) y f = f
skip (last ∷ l) y f = f
skip (gap ∷ l) y f = f

-- ---- the first of the n lists from k on that is not empty, with its head

pub data Found : Type 0 where
  nothing : Found
  found : ℕ → ℕ → Found

unfoldable pub head_or : ℕ → List ℕ → Found → Found
head_or k [] r = r
head_or k (x ∷ l) r = found k x

unfoldable pub search : Lists → ℕ → ℕ → Found
unfolding head_or
search f zero k = nothing
search f (suc n) k = head_or k (f k) (search f n (suc k))
