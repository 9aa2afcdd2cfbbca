-- What follows from specs/InPiece.antt.
use Rattle.std.specs.Prelude.{ℕ, ◌+◌, ◌≤◌, ◌<◌, ◌≡◌, refl, List, [], ◌∷◌, ◌⊎◌}
use Rattle.std.proofs.Common.{arith, sym, subst, inl, inr}
use Rattle.definition.specs.Blocks.{Block, free, used, last, gap, size, total, ◌⟨⟩◌}
use Rattle.invariants.specs.Order.{Side, out, busy, idle, Ordered, OrderedL, order_split, BlockAt, LeftAt, at_split, at_join, at_low, left_lt, stands_at}
use Rattle.invariants.specs.Pieces.{Inner}
use Rattle.invariants.specs.InPiece.{GoesOn, InPiece}

abbrev Inside : Block → Type 0
Inside (free s) = Unit {0}
Inside (used s d) = Unit {0}
Inside last = ⊥
Inside gap = ⊥

-- one block more before it
more : (x : ℕ) (b : Block) (r : List Block) → Inside b → GoesOn (x + size b) r → GoesOn x (b ∷ r)
more x b r i g = record {
  ends = g.ends;
  low = omega (arith, g.low);
  sentinel = inr g.sentinel;
  given = λ y h k. no_gap b i y h k;
  one = λ y h k. no_last b i y h k;
}
  where
    no_gap : (c : Block) → Inside c → (y : ℕ) → y < g.ends → ((y ≡ x) × (c ≡ gap)) ⊎ BlockAt y gap (x + size b) r → ⊥
    no_gap c j y h (inl k) = subst Inside k.1 j
    no_gap c j y h (inr k) = g.given y h k

    no_last : (c : Block) → Inside c → (y : ℕ) → y < g.ends → ((y ≡ x) × (c ≡ last)) ⊎ BlockAt y last (x + size b) r → ⊥
    no_last c j y h (inl k) = subst Inside k.1 j
    no_last c j y h (inr k) = g.one y h k

goes_on : (r : List Block) (x : ℕ) (a : Side) → Inner a → Ordered a r → GoesOn x r
goes_on [] x out i o = absurd i
goes_on [] x busy i o = absurd o
goes_on [] x idle i o = absurd o
goes_on (free s ∷ r) x a i o = more x (free s) r tt (goes_on r (x + s) idle tt o.2)
goes_on (used s d ∷ r) x a i o = more x (used s d) r tt (goes_on r (x + s) busy tt o.2)
goes_on (last ∷ r) x a i o = record {
  ends = x;
  low = omega arith;
  sentinel = inl (refl, refl);
  given = λ y h k. omega (arith, at_low y gap x (last ∷ r) k);
  one = λ y h k. omega (arith, at_low y last x (last ∷ r) k);
}
goes_on (gap ∷ r) x out i o = absurd i
goes_on (gap ∷ r) x busy i o = absurd o.0
goes_on (gap ∷ r) x idle i o = absurd o.0

in_parts : (l r : List Block) (s d : ℕ) → Ordered out (l ⟨⟩ used s d ∷ r) → InPiece (total l) s (l ⟨⟩ used s d ∷ r)
unfolding more
in_parts l r s d o =
    let i = order_split l (used s d ∷ r) o in
    let g = goes_on r (total l + s) busy tt i.1.2 in
    let u = more (total l) (used s d) r tt g in
    record {
      ends = g.ends;
      behind = g.low;
      sentinel = at_join g.ends last l (used s d ∷ r) (inr u.sentinel);
      given = λ y h k b. right gap y h i.0 (u.given y k) (at_split y gap l (used s d ∷ r) b);
      one = λ y h k b. right last y h i.0 (u.one y k) (at_split y last l (used s d ∷ r) b);
    }
  where
    right : (c : Block) (y : ℕ) → total l ≤ y → OrderedL l → (BlockAt y c (total l) (used s d ∷ r) → ⊥) → LeftAt y c l ⊎ BlockAt y c (total l) (used s d ∷ r) → ⊥
    right c y h w n (inl k) = omega (arith, left_lt y c l w k)
    right c y h w n (inr k) = n k

pub in_piece : (x s d : ℕ) (xs : List Block) → Ordered out xs → BlockAt x (used s d) 0 xs → InPiece x s xs
in_piece x s d xs o b =
    let p = stands_at x (used s d) xs b in
    subst (InPiece x s) (sym p.whole) (subst (λ (y : ℕ). InPiece y s (p.before ⟨⟩ used s d ∷ p.behind)) (sym p.place)
    (in_parts p.before p.behind s d (subst (Ordered out) p.whole o)))
