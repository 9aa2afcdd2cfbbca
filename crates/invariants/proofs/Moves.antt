-- What follows from specs/Moves.antt.
use Rattle.std.specs.Prelude.{ℕ, ◌+◌, ◌≤◌, ◌<◌, ◌≡◌, refl, List, ◌∷◌}
use Rattle.std.proofs.Common.{arith, sym, subst, inl, inr}
use Rattle.definition.specs.Blocks.{Block, free, used, last, gap, ◌⟨⟩◌}
use Rattle.definition.specs.Lists.{Lists}
use Rattle.invariants.specs.Order.{out, busy, side_l, Fits, Inside, Ordered, BlockAt, LeftAt, used_fits, Apart, same, before, behind}
use Rattle.invariants.proofs.Order.{apart, at_whole}
use Rattle.invariants.specs.Members.{Mem}
use Rattle.invariants.specs.Pieces.{pieces, pieces_behind, Listed}
use Rattle.invariants.specs.Moves.{Sane, free_used, occupy, vacate, recast}

pub free_last_lem : {t : ℕ} → last ≡ free t → ⊥
free_last_lem e = let z : ◌≡◌ {A = ℕ} 0 1 = cc in omega arith

pub free_gap : {t : ℕ} → gap ≡ free t → ⊥
free_gap e = let z : ◌≡◌ {A = ℕ} 0 1 = cc in omega arith

-- no grain of a used block is in a list
pub used_unlisted : (c : ℕ) (xs : List Block) (f : Lists) (y s d : ℕ) → Sane c xs f → BlockAt y (used s d) 0 xs → (u : ℕ) → y ≤ u → u < y + s → (k : ℕ) → Mem u (f k) → ⊥
used_unlisted c xs f y s d o h u p q k i = let g = o.exact.there k u i in go g.0 g.1 (apart y u 0 (used s d) (free g.0) xs h g.1)
  where
    go : (t : ℕ) → BlockAt u (free t) 0 xs → Apart y (used s d) u (free t) → ⊥
    go t b (same a e) = free_used e
    go t b (before a) = omega arith
    go t b (behind a) = omega (arith, at_whole u (free t) 0 out xs o.order b)

module _ (c : ℕ) (f : Lists) (l r : List Block) (s d t e : ℕ) where
  two_pieces : (v n : ℕ) → pieces n (used s d ∷ used t e ∷ r) ≡ pieces n (used (s + t) v ∷ r)
  two_pieces = Rattle.invariants.specs.Moves.two_pieces c f l r s d t e

  two_one : (v y u : ℕ) → LeftAt y (free u) (used t e ∷ used s d ∷ l) → LeftAt y (free u) (used (s + t) v ∷ l)
  two_one = Rattle.invariants.specs.Moves.two_one c f l r s d t e

  one_two : (v y u : ℕ) → LeftAt y (free u) (used (s + t) v ∷ l) → LeftAt y (free u) (used t e ∷ used s d ∷ l)
  one_two = Rattle.invariants.specs.Moves.one_two c f l r s d t e

  -- part: a used block becomes two
  pub part : (v : ℕ) → 1 ≤ s → 1 ≤ t → Inside s d → Inside t e → Sane c (l ⟨⟩ used (s + t) v ∷ r) f → Sane c (l ⟨⟩ used s d ∷ used t e ∷ r) f
  part v p q i j = recast c f (used (s + t) v ∷ l) (used t e ∷ used s d ∷ l) r (omega arith)
      (λ w. (tt, (q, j), (used_fits (side_l l) s d, (p, i), w.2)))
      (λ w. w) (one_two v) (two_one v)
      (subst (Listed c) (sym (pieces_behind l (used s d ∷ used t e ∷ r) (used (s + t) v ∷ r) (two_pieces v) 0)))

-- the payload of a used block is placed anew
pub replace : (c : ℕ) (f : Lists) (l r : List Block) (s d v : ℕ) → Inside s v → Sane c (l ⟨⟩ used s d ∷ r) f → Sane c (l ⟨⟩ used s v ∷ r) f
replace c f l r s d v i = recast c f (used s d ∷ l) (used s v ∷ l) r refl
    (λ w. (used_fits (side_l l) s v, (w.1.0, i), w.2)) (λ w. w) to to'
    (subst (Listed c) (pieces_behind l (used s d ∷ r) (used s v ∷ r) (λ n. refl) 0))
  where
    to : (y u : ℕ) → LeftAt y (free u) (used s d ∷ l) → LeftAt y (free u) (used s v ∷ l)
    to y u (inl h) = absurd (free_used h.1)
    to y u (inr h) = inr h

    to' : (y u : ℕ) → LeftAt y (free u) (used s v ∷ l) → LeftAt y (free u) (used s d ∷ l)
    to' y u (inl h) = absurd (free_used h.1)
    to' y u (inr h) = inr h
