-- The arena is one list of blocks, from grain 0 on, with no holes: what is not given counts as gaps. Offsets are not
-- stored: a block's offset is the sum of the sizes before it. So blocks can't overlap, and every grain is accounted for.
use Rattle.std.specs.Prelude.{ℕ, zero, suc, ◌+◌, ◌*◌, List, [], ◌∷◌}
use Rattle.choice.specs.Choice.{if_eq}

-- A block, its size in grains: free; used, with its payload's place, counted in half grains from the block's start;
-- the sentinel at a piece's end; one grain that was not given.
pub data Block : Type 0 where
  free : ℕ → Block
  used : ℕ → ℕ → Block
  last : Block
  gap : Block

abbrev pub size : Block → ℕ
size (free s) = s
size (used s d) = s
size last = 1
size gap = 1

abbrev pub total : List Block → ℕ
total [] = 0
total (b ∷ l) = total l + size b

-- ---- going to a block: the blocks before it, nearest first, and the list from it on

abbrev pub ◌⟨⟩◌ : List Block → List Block → List Block
◌⟨⟩◌ [] r = r
◌⟨⟩◌ (b ∷ l) r = l ⟨⟩ (b ∷ r)

infixr 50 ◌⟨⟩◌
pub record Place : Type 0 where
  pub before : List Block
  pub behind : List Block

-- the first block whose key is v; the key sees where the block stands
unfoldable pub find : (ℕ → Block → ℕ) → ℕ → List Block → List Block → Place
unfolding if_eq
find key v l [] = record { before = l; behind = [] }
find key v l (b ∷ r) = if_eq (key (total l) b) v (record { before = l; behind = b ∷ r }) (find key v (b ∷ l) r)

abbrev pub offset : ℕ → Block → ℕ
offset x b = x

-- where the payload of a used block at x stands, in half grains; 0 for other blocks, where no payload is
abbrev pub payload : ℕ → Block → ℕ
payload x (free s) = 0
payload x (used s d) = 2 * x + d
payload x last = 0
payload x gap = 0

-- ---- the neighbours: the size of a free block that stands first, or 0, and what follows it

abbrev pub room : List Block → ℕ
room [] = 0
room (free s ∷ l) = s
room (used s d ∷ l) = 0
room (last ∷ l) = 0
room (gap ∷ l) = 0

abbrev pub past : List Block → List Block
past [] = []
past (free s ∷ l) = l
past (used s d ∷ l) = used s d ∷ l
past (last ∷ l) = last ∷ l
past (gap ∷ l) = gap ∷ l

-- ---- grains that were not given

abbrev pub gaps : ℕ → List Block → List Block
gaps zero r = r
gaps (suc n) r = gap ∷ gaps n r

-- how many stand first
abbrev pub bare : List Block → ℕ
bare [] = 0
bare (free s ∷ l) = 0
bare (used s d ∷ l) = 0
bare (last ∷ l) = 0
bare (gap ∷ l) = suc (bare l)

-- the list without its first n
abbrev pub without : ℕ → List Block → List Block
without zero r = r
without (suc n) [] = []
without (suc n) (b ∷ r) = without n r
