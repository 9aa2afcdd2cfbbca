-- The writes of tags that each change of the blocks needs. Throughout, a block of s grains stands at grain x; k grains of
-- it or of the joined room become a used block, whose payload stands d half grains after the block's start; a is the free
-- room before the block, and b the free room after it.
use Rattle.std.specs.Prelude.{ℕ, ◌+◌, ◌-◌, ◌/◌, List, [], ◌∷◌, ◌++◌}
use Rattle.choice.specs.Choice.{if_eq, if_le}
use Rattle.script.specs.Memory.{Write, ◌at◌≔◌}
use Rattle.tags.specs.Tag.{Tag, free_tag, end_tag, first_tag, pad_tag, start_tag}

-- ---- parts

-- the last grain of a padding of two grains or more: its tag comes, or goes
abbrev pub lay_pad_tags : ℕ → ℕ → List Write
lay_pad_tags x d = if_le 2 (d / 2) ((Tag at x + d / 2 - 1 ≔ pad_tag (d / 2)) ∷ []) []

abbrev pub clear_pad_tags : ℕ → ℕ → List Write
clear_pad_tags x d = if_le 2 (d / 2) ((Tag at x + d / 2 - 1 ≔ 0) ∷ []) []

-- a free block comes: its last tag, then its first, which may be at the same grain
abbrev pub lay_free_tags : ℕ → ℕ → List Write
lay_free_tags x s = (Tag at x + s - 1 ≔ end_tag s) ∷ (Tag at x ≔ free_tag s) ∷ []

-- k of s blank grains become a used block, and the rest, if any, a free one
abbrev pub split_tags : ℕ → ℕ → ℕ → ℕ → List Write
split_tags x s k d = if_eq k s ((Tag at x ≔ first_tag k d) ∷ []) ((Tag at x ≔ first_tag k d) ∷ lay_free_tags (x + k) (s - k))

-- a free block of b grains at y is joined with what stands before it: its last tag becomes that of the whole
abbrev pub clear_after_tags : ℕ → ℕ → List Write
clear_after_tags y b = if_eq b 0 [] ((Tag at y ≔ 0) ∷ [])

-- a block at x is joined with a free block of a grains before it, whose first tag becomes that of the whole
abbrev pub clear_before_tags : ℕ → ℕ → List Write
clear_before_tags x a = if_eq a 0 [] ((Tag at x ≔ 0) ∷ (Tag at x - 1 ≔ 0) ∷ [])

-- a free block of b grains at y goes
abbrev pub clear_room_tags : ℕ → ℕ → List Write
clear_room_tags y b = if_eq b 0 [] ((Tag at y ≔ 0) ∷ (Tag at y + b - 1 ≔ 0) ∷ [])

-- ---- the changes

-- of a free block k grains become used
abbrev pub allocate_tags : ℕ → ℕ → ℕ → ℕ → List Write
allocate_tags x s k d = (Tag at x + s - 1 ≔ 0) ∷ (lay_pad_tags x d ++ split_tags x s k d)

-- a used block becomes free, and is joined with the free room beside it
abbrev pub deallocate_tags : ℕ → ℕ → ℕ → ℕ → ℕ → List Write
deallocate_tags x s d a b = clear_pad_tags x d ++ (clear_after_tags (x + s) b ++ (clear_before_tags x a ++ lay_free_tags (x - a) (a + (s + b))))

-- a used block grows into the free room after it, or shrinks: it has k grains, and its payload stays where it is
abbrev pub stretch_tags : ℕ → ℕ → ℕ → ℕ → ℕ → List Write
stretch_tags x s d b k = clear_room_tags (x + s) b ++ split_tags x (s + b) k d

-- a used block, with its payload at e, moves down into the free room before it
abbrev pub down_tags : ℕ → ℕ → ℕ → ℕ → ℕ → ℕ → ℕ → List Write
down_tags x s e a b k d = clear_pad_tags x e ++ (clear_after_tags (x + s) b ++ (clear_before_tags x a ++ allocate_tags (x - a) (a + (s + b)) k d))

-- k grains that were not given become a piece: a free block and its sentinel
abbrev pub piece_tags : ℕ → ℕ → List Write
piece_tags x k = lay_free_tags x (k - 1) ++ (Tag at x + (k - 1) ≔ start_tag 1) ∷ []
