-- What follows from specs/Pieces.antt.
use Rattle.std.specs.Prelude.{ℕ, ◌+◌, ◌^◌, ◌<◌, List, [], ◌∷◌}
use Rattle.std.proofs.Common.{arith}
use Rattle.definition.specs.Blocks.{Block, free, used, last, gap, ◌⟨⟩◌}
use Rattle.invariants.specs.Order.{Side, out, busy, idle, Ordered}
use Rattle.invariants.specs.Pieces.{pieces, Listed, Inner}

-- ---- no piece is longer than there are lists for

-- what stands before a block's end is part of its piece
pub ahead : (c : ℕ) (r : List Block) (n : ℕ) (a : Side) → Inner a → Ordered a r → Listed c (pieces n r) → n < 2 ^ c
ahead c [] n out i o h = absurd i
ahead c [] n busy i o h = absurd o
ahead c [] n idle i o h = absurd o
ahead c (free s ∷ r) n a i o h = omega (arith, ahead c r (n + s) idle tt o.2 h)
ahead c (used s d ∷ r) n a i o h = omega (arith, ahead c r (n + s) busy tt o.2 h)
ahead c (last ∷ r) n a i o h = h.0
ahead c (gap ∷ r) n out i o h = absurd i
ahead c (gap ∷ r) n busy i o h = absurd o.0
ahead c (gap ∷ r) n idle i o h = absurd o.0

-- the piece at hand behind l
pub listed_behind : (c n : ℕ) (l r : List Block) → Listed c (pieces n (l ⟨⟩ r)) → (m : ℕ) × Listed c (pieces m r)
listed_behind c n [] r h = (n, h)
listed_behind c n (b ∷ l) r h = let i = listed_behind c n l (b ∷ r) h in next b i.0 i.1
  where
    next : (b : Block) (m : ℕ) → Listed c (pieces m (b ∷ r)) → (k : ℕ) × Listed c (pieces k r)
    next (free s) m h = (m + s, h)
    next (used s d) m h = (m + s, h)
    next last m h = (0, h.1)
    next gap m h = (0, h)

pub free_listed : (c : ℕ) (l r : List Block) (s : ℕ) → Ordered idle r → Listed c (pieces 0 (l ⟨⟩ free s ∷ r)) → s < 2 ^ c
free_listed c l r s o h =
    let i = listed_behind c 0 l (free s ∷ r) h in
    omega (arith, ahead c r (i.0 + s) idle tt o i.1)

pub used_listed : (c : ℕ) (l r : List Block) (s d : ℕ) → Ordered busy r → Listed c (pieces 0 (l ⟨⟩ used s d ∷ r)) → s < 2 ^ c
used_listed c l r s d o h =
    let i = listed_behind c 0 l (used s d ∷ r) h in
    omega (arith, ahead c r (i.0 + s) busy tt o i.1)
