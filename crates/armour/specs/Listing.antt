-- For blocks in order there are lists that make a heap of them (`listing`). So what is proved of heaps holds of blocks whose
-- lists are lost, too.
use Rattle.std.specs.Prelude.{ℕ, ◌+◌, ◌≡◌, List, [], ◌∷◌}
use Rattle.class.specs.Class.{list_of}
use Rattle.definition.specs.Blocks.{Block, free, used, last, gap}
use Rattle.definition.specs.Lists.{Lists, push}
use Rattle.invariants.specs.Order.{BlockAt}
use Rattle.invariants.specs.Members.{Mem, Apiece}

-- the free blocks of each list, in order of address
abbrev pub listing : ℕ → List Block → Lists
listing x [] = λ k. []
listing x (free s ∷ r) = push (list_of s) x (listing (x + s) r)
listing x (used s d ∷ r) = listing (x + s) r
listing x (last ∷ r) = listing (x + 1) r
listing x (gap ∷ r) = listing (x + 1) r

-- `Exact`, of a list of blocks that begins at x
pub record From (x : ℕ) (xs : List Block) (f : Lists) : Type 0 where
  pub apiece : Apiece f
  pub there : (k y : ℕ) → Mem y (f k) → (s : ℕ) × BlockAt y (free s) x xs × (list_of s ≡ k)
  pub listed : (y s : ℕ) → BlockAt y (free s) x xs → Mem y (f (list_of s))
