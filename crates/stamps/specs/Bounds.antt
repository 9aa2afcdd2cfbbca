-- What the functions that write tags require: the places are in the slice, the counts fit in a tag, and no difference is
-- below 0.
use Rattle.std.specs.Prelude.{ℕ, ◌+◌, ◌*◌, ◌≤◌, ◌<◌, List, length}
use Rattle.machine.specs.Machine.{piece}

-- s grains at x become a free block
pub record CanLayFree (t : List ℕ) (x s : ℕ) : Type 0 where
  pub some : 1 ≤ s
  pub inside : x + s ≤ length t
  pub counted : s < piece

-- k of s grains at x become a used block, and the rest a free one
pub record CanSplit (t : List ℕ) (x s k : ℕ) : Type 0 where
  pub some : 1 ≤ s
  pub inside : x + s ≤ length t
  pub counted : s < piece
  pub fits : k ≤ s

-- with a payload that stands d half grains after the block's start
pub record CanAllocate (t : List ℕ) (x s k d : ℕ) : Type 0 where
  pub some : 1 ≤ s
  pub inside : x + s ≤ length t
  pub counted : s < piece
  pub fits : k ≤ s
  pub within : d ≤ 2 * k

-- a used block of s grains at x, with its payload at d, becomes free, with a free grains before it and b after it
pub record CanDeallocate (t : List ℕ) (x s d a b : ℕ) : Type 0 where
  pub some : 1 ≤ s
  pub before : a ≤ x
  pub inside : x + (s + b) ≤ length t
  pub counted : a + (s + b) < piece
  pub within : d ≤ 2 * s

-- a used block of s grains at x is to have k grains, of its own and of b free ones after it
pub record CanStretch (t : List ℕ) (x s b k : ℕ) : Type 0 where
  pub some : 1 ≤ s
  pub inside : x + (s + b) ≤ length t
  pub counted : s + b < piece
  pub fits : k ≤ s + b

-- a used block of s grains at x, with its payload at e, moves down: it is to have k grains and its payload at d
pub record CanDown (t : List ℕ) (x s e a b k d : ℕ) : Type 0 where
  pub some : 1 ≤ s
  pub before : a ≤ x
  pub inside : x + (s + b) ≤ length t
  pub counted : a + (s + b) < piece
  pub within : e ≤ 2 * s
  pub fits : k ≤ a + (s + b)
  pub placed : d ≤ 2 * k

-- k grains at x become a piece: a free block and its sentinel
pub record CanLayPiece (t : List ℕ) (x k : ℕ) : Type 0 where
  pub some : 2 ≤ k
  pub inside : x + k ≤ length t
  pub counted : k ≤ piece
