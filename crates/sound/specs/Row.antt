-- The row of blocks in memory: `sz` is the field Size and `up` the field Before. What a header says of its own block,
-- and which words may change without touching the row. Frames are intervals of grains.
use Rattle.std.specs.Prelude.{ℕ, ◌+◌, ◌≡◌, List, [], ◌∷◌}
use Rattle.definition.specs.Blocks.{Block, free, used, last, gap, size, total}
use Rattle.script.specs.Memory.{none, free_word, used_word, last_word}

-- what the header at x says, if p is the block before
abbrev pub Head : (ℕ → ℕ) → (ℕ → ℕ) → ℕ → ℕ → Block → Type 0
Head sz up x p (free s) = (sz x ≡ free_word s) × (up x ≡ p)
Head sz up x p (used s d) = (sz x ≡ used_word s) × (up x ≡ p)
Head sz up x p last = (sz x ≡ last_word) × (up x ≡ p)
Head sz up x p gap = Unit {0}

-- what the block behind the one at x says of it
abbrev pub link : ℕ → Block → ℕ
link x (free s) = x
link x (used s d) = x
link x last = none
link x gap = none

abbrev pub link_l : List Block → ℕ
link_l [] = none
link_l (b ∷ l) = link (total l) b

abbrev pub Row : (ℕ → ℕ) → (ℕ → ℕ) → ℕ → ℕ → List Block → Type 0
Row sz up x p [] = Unit {0}
Row sz up x p (b ∷ r) = Head sz up x p b × Row sz up (x + size b) (link x b) r

-- the blocks before, nearest first
abbrev pub Left : (ℕ → ℕ) → (ℕ → ℕ) → List Block → Type 0
Left sz up [] = Unit {0}
Left sz up (b ∷ l) = Head sz up (total l) (link_l l) b × Left sz up l
