-- What a list of blocks leaves when the blocks inside each piece are forgotten: its pieces, by their grains without the
-- sentinel, and the gaps. Take, return and resize leave it as it was: so every grain of a region stays accounted for,
-- between the same two sentinels, and nobody gets a grain that was not given.
use Rattle.std.specs.Prelude.{ℕ, ◌+◌, ◌^◌, ◌<◌, ◌≡◌, List, [], ◌∷◌}
use Rattle.std.proofs.Common.{ap}
use Rattle.definition.specs.Blocks.{Block, free, used, last, gap, ◌⟨⟩◌}
use Rattle.invariants.specs.Order.{Side, out, busy, idle}

pub data Piece : Type 0 where
  piece : ℕ → Piece
  hole : Piece

-- n grains of the piece at hand stand before
abbrev pub pieces : ℕ → List Block → List Piece
pieces n [] = []
pieces n (free s ∷ r) = pieces (n + s) r
pieces n (used s d ∷ r) = pieces (n + s) r
pieces n (last ∷ r) = piece n ∷ pieces 0 r
pieces n (gap ∷ r) = hole ∷ pieces 0 r

-- what makes no difference behind l makes none in the whole
pub pieces_behind : (l r t : List Block) → ((n : ℕ) → pieces n r ≡ pieces n t) → (n : ℕ) → pieces n (l ⟨⟩ r) ≡ pieces n (l ⟨⟩ t)
pieces_behind [] r t h n = h n
pieces_behind (free s ∷ l) r t h n = pieces_behind l (free s ∷ r) (free s ∷ t) (λ m. h (m + s)) n
pieces_behind (used s d ∷ l) r t h n = pieces_behind l (used s d ∷ r) (used s d ∷ t) (λ m. h (m + s)) n
pieces_behind (last ∷ l) r t h n = pieces_behind l (last ∷ r) (last ∷ t) (λ m. ap (λ (x : List Piece). piece m ∷ x) (h 0)) n
pieces_behind (gap ∷ l) r t h n = pieces_behind l (gap ∷ r) (gap ∷ t) (λ m. ap (λ (x : List Piece). hole ∷ x) (h 0)) n

-- ---- no piece is longer than there are lists for

abbrev pub Listed : ℕ → List Piece → Type 0
Listed c [] = Unit {0}
Listed c (piece n ∷ r) = (n < 2 ^ c) × Listed c r
Listed c (hole ∷ r) = Listed c r

abbrev pub Inner : Side → Type 0
Inner out = ⊥
Inner busy = Unit {0}
Inner idle = Unit {0}
