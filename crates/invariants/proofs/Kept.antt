-- What follows from specs/Kept.antt.
use Rattle.std.specs.Prelude.{ℕ, ◌+◌, ◌≡◌, List, ◌∷◌, ◌⊎◌, []}
use Rattle.std.proofs.Common.{arith, add-zero, sym, subst, inl, inr}
use Rattle.definition.specs.Blocks.{Block, free, used, last, gap, size, total, ◌⟨⟩◌, room, past}
use Rattle.invariants.specs.Order.{BlockAt, LeftAt, at_split, at_join}
use Rattle.invariants.proofs.Neighbours.{total_past}
use Rattle.invariants.specs.Kept.{Solid}

-- no free block is solid
pub solid_free : {t : ℕ} (b : Block) → Solid b → free t ≡ b → ⊥
solid_free b v e = subst Solid (sym e) v

module _ (y : ℕ) (b : Block) (v : Solid b) where
  -- ---- a free block that stands first doesn't count

  pub left_solid : (l : List Block) → LeftAt y b l → LeftAt y b (past l)
  left_solid [] h = elim h [ ]
  left_solid (free s ∷ l) (inl h) = absurd (solid_free b v h.1)
  left_solid (free s ∷ l) (inr h) = h
  left_solid (used s d ∷ l) h = h
  left_solid (last ∷ l) h = h
  left_solid (gap ∷ l) h = h

  pub left_solid_back : (l : List Block) → LeftAt y b (past l) → LeftAt y b l
  left_solid_back [] h = elim h [ ]
  left_solid_back (free s ∷ l) h = inr h
  left_solid_back (used s d ∷ l) h = h
  left_solid_back (last ∷ l) h = h
  left_solid_back (gap ∷ l) h = h

  pub right_solid : (x : ℕ) (r : List Block) → BlockAt y b x r → BlockAt y b (x + room r) (past r)
  right_solid x [] h = elim h [ ]
  right_solid x (free s ∷ r) (inl h) = absurd (solid_free b v h.1)
  right_solid x (free s ∷ r) (inr h) = h
  right_solid x (used s d ∷ r) h = rw (add-zero x) h
  right_solid x (last ∷ r) h = rw (add-zero x) h
  right_solid x (gap ∷ r) h = rw (add-zero x) h

  pub right_solid_back : (x : ℕ) (r : List Block) → BlockAt y b (x + room r) (past r) → BlockAt y b x r
  right_solid_back x [] h = elim h [ ]
  right_solid_back x (free s ∷ r) h = inr h
  right_solid_back x (used s d ∷ r) h = rw (add-zero x) at h
  right_solid_back x (last ∷ r) h = rw (add-zero x) at h
  right_solid_back x (gap ∷ r) h = rw (add-zero x) at h

  -- ---- one block in the middle becomes another, and the rest stays

  -- each block was that one, or stands in the new list too
  pub swap : (a c : Block) (l k r t : List Block) → (LeftAt y b l → LeftAt y b k)
      → (BlockAt y b (total l + size a) r → BlockAt y b (total k + size c) t)
      → BlockAt y b 0 (l ⟨⟩ a ∷ r) → ((y ≡ total l) × (a ≡ b)) ⊎ BlockAt y b 0 (k ⟨⟩ c ∷ t)
  swap a c l k r t f g h = go (at_split y b l (a ∷ r) h)
    where
      go : LeftAt y b l ⊎ BlockAt y b (total l) (a ∷ r) → ((y ≡ total l) × (a ≡ b)) ⊎ BlockAt y b 0 (k ⟨⟩ c ∷ t)
      go (inl h) = inr (at_join y b k (c ∷ t) (inl (f h)))
      go (inr (inl h)) = inl h
      go (inr (inr h)) = inr (at_join y b k (c ∷ t) (inr (inr (g h))))

  -- a free block is not the one
  other : {x t : ℕ} {P : Type 0} → ((y ≡ x) × (free t ≡ b)) ⊎ P → P
  other (inl h) = absurd (solid_free b v h.1)
  other (inr h) = h

  -- the same place, counted in another way: with the free block that stands first swallowed, left over, or as it was
  behind : {z : ℕ} (x : ℕ) (r : List Block) → x + room r ≡ z → BlockAt y b x r → BlockAt y b z (past r)
  behind x r e h = rw e at (right_solid x r h)

  behind_back : {x : ℕ} (z : ℕ) (r : List Block) → z + room r ≡ x → BlockAt y b x (past r) → BlockAt y b z r
  behind_back z r e h = right_solid_back z r (rw e h)

  moved : {x z : ℕ} (r : List Block) → x ≡ z → BlockAt y b x r → BlockAt y b z r
  moved r e h = rw e at h

  -- ---- return: a used block is joined with both neighbours

  pub kept_join : (l r : List Block) (s d t : ℕ) → room l + (s + room r) ≡ t
      → BlockAt y b 0 (past l ⟨⟩ free t ∷ past r) → BlockAt y b 0 (l ⟨⟩ used s d ∷ r)
  kept_join l r s d t e h = other (swap (free t) (used s d) (past l) l (past r) r (left_solid_back l) (behind_back (total l + s) r (omega (arith, total_past l))) h)

  pub kept_join_back : (l r : List Block) (s d t : ℕ) → room l + (s + room r) ≡ t
      → BlockAt y b 0 (l ⟨⟩ used s d ∷ r) → ((y ≡ total l) × (used s d ≡ b)) ⊎ BlockAt y b 0 (past l ⟨⟩ free t ∷ past r)
  kept_join_back l r s d t e h = swap (used s d) (free t) l (past l) r (past r) (left_solid l) (behind (total l + s) r (omega (arith, total_past l))) h

  -- ---- resize downwards: both neighbours are swallowed, and what is not needed is left

  pub kept_down : (l r : List Block) (s d k e : ℕ) → k ≡ room l + (s + room r)
      → BlockAt y b 0 (past l ⟨⟩ used k e ∷ past r) → ((y ≡ total (past l)) × (used k e ≡ b)) ⊎ BlockAt y b 0 (l ⟨⟩ used s d ∷ r)
  kept_down l r s d k e q h = swap (used k e) (used s d) (past l) l (past r) r (left_solid_back l) (behind_back (total l + s) r (omega (arith, total_past l))) h

  pub kept_down_back : (l r : List Block) (s d k e : ℕ) → k ≡ room l + (s + room r)
      → BlockAt y b 0 (l ⟨⟩ used s d ∷ r) → ((y ≡ total l) × (used s d ≡ b)) ⊎ BlockAt y b 0 (past l ⟨⟩ used k e ∷ past r)
  kept_down_back l r s d k e q h = swap (used s d) (used k e) l (past l) r (past r) (left_solid l) (behind (total l + s) r (omega (arith, total_past l))) h

  pub kept_down_split : (l r : List Block) (s d k e u : ℕ) → k + u ≡ room l + (s + room r)
      → BlockAt y b 0 (past l ⟨⟩ used k e ∷ free u ∷ past r) → ((y ≡ total (past l)) × (used k e ≡ b)) ⊎ BlockAt y b 0 (l ⟨⟩ used s d ∷ r)
  kept_down_split l r s d k e u q h = swap (used k e) (used s d) (past l) l (free u ∷ past r) r (left_solid_back l)
      (λ i. behind_back (total l + s) r (omega (arith, total_past l)) (right_solid (total (past l) + k) (free u ∷ past r) i)) h

  pub kept_down_split_back : (l r : List Block) (s d k e u : ℕ) → k + u ≡ room l + (s + room r)
      → BlockAt y b 0 (l ⟨⟩ used s d ∷ r) → ((y ≡ total l) × (used s d ≡ b)) ⊎ BlockAt y b 0 (past l ⟨⟩ used k e ∷ free u ∷ past r)
  kept_down_split_back l r s d k e u q h = swap (used s d) (used k e) l (past l) r (free u ∷ past r) (left_solid l)
      (λ i. inr (behind (total l + s) r (omega (arith, total_past l)) i)) h

  -- ---- resize in place: the neighbour behind is swallowed, and what is not needed is left

  pub kept_stretch : (l r : List Block) (s d k e : ℕ) → k ≡ s + room r
      → BlockAt y b 0 (l ⟨⟩ used k e ∷ past r) → ((y ≡ total l) × (used k e ≡ b)) ⊎ BlockAt y b 0 (l ⟨⟩ used s d ∷ r)
  kept_stretch l r s d k e q h = swap (used k e) (used s d) l l (past r) r (λ i. i) (behind_back (total l + s) r (omega arith)) h

  pub kept_stretch_back : (l r : List Block) (s d k e : ℕ) → k ≡ s + room r
      → BlockAt y b 0 (l ⟨⟩ used s d ∷ r) → ((y ≡ total l) × (used s d ≡ b)) ⊎ BlockAt y b 0 (l ⟨⟩ used k e ∷ past r)
  kept_stretch_back l r s d k e q h = swap (used s d) (used k e) l l r (past r) (λ i. i) (behind (total l + s) r (omega arith)) h

  pub kept_stretch_split : (l r : List Block) (s d k e u : ℕ) → k + u ≡ s + room r
      → BlockAt y b 0 (l ⟨⟩ used k e ∷ free u ∷ past r) → ((y ≡ total l) × (used k e ≡ b)) ⊎ BlockAt y b 0 (l ⟨⟩ used s d ∷ r)
  kept_stretch_split l r s d k e u q h = swap (used k e) (used s d) l l (free u ∷ past r) r (λ i. i)
      (λ i. behind_back (total l + s) r (omega arith) (right_solid (total l + k) (free u ∷ past r) i)) h

  pub kept_stretch_split_back : (l r : List Block) (s d k e u : ℕ) → k + u ≡ s + room r
      → BlockAt y b 0 (l ⟨⟩ used s d ∷ r) → ((y ≡ total l) × (used s d ≡ b)) ⊎ BlockAt y b 0 (l ⟨⟩ used k e ∷ free u ∷ past r)
  kept_stretch_split_back l r s d k e u q h = swap (used s d) (used k e) l l r (free u ∷ past r) (λ i. i)
      (λ i. inr (behind (total l + s) r (omega arith) i)) h

  -- ---- take: a free block becomes used, and what is not needed is left

  pub kept_take : (l r : List Block) (s e : ℕ)
      → BlockAt y b 0 (l ⟨⟩ used s e ∷ r) → ((y ≡ total l) × (used s e ≡ b)) ⊎ BlockAt y b 0 (l ⟨⟩ free s ∷ r)
  kept_take l r s e h = swap (used s e) (free s) l l r r (λ i. i) (λ i. i) h

  pub kept_take_back : (l r : List Block) (s e : ℕ) → BlockAt y b 0 (l ⟨⟩ free s ∷ r) → BlockAt y b 0 (l ⟨⟩ used s e ∷ r)
  kept_take_back l r s e h = other (swap (free s) (used s e) l l r r (λ i. i) (λ i. i) h)

  pub kept_take_split : (l r : List Block) (s k e u : ℕ) → k + u ≡ s
      → BlockAt y b 0 (l ⟨⟩ used k e ∷ free u ∷ r) → ((y ≡ total l) × (used k e ≡ b)) ⊎ BlockAt y b 0 (l ⟨⟩ free s ∷ r)
  kept_take_split l r s k e u q h = swap (used k e) (free s) l l (free u ∷ r) r (λ i. i)
      (λ i. moved r (omega arith) (right_solid (total l + k) (free u ∷ r) i)) h

  pub kept_take_split_back : (l r : List Block) (s k e u : ℕ) → k + u ≡ s
      → BlockAt y b 0 (l ⟨⟩ free s ∷ r) → BlockAt y b 0 (l ⟨⟩ used k e ∷ free u ∷ r)
  kept_take_split_back l r s k e u q h = other (swap (free s) (used k e) l l r (free u ∷ r) (λ i. i) (λ i. inr (moved r (omega arith) i)) h)
