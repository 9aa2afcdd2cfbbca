-- A tag's count is less than 2 ^ c, where no piece is longer than c first-level classes allow.
use Rattle.std.specs.Prelude.{ℕ, zero, suc, ◌*◌, ◌/◌, ◌^◌, ◌≤◌, ◌<◌, ◌≡◌, List, ◌∷◌}
use Rattle.std.proofs.Common.{arith, pow_pos, subst}
use Rattle.definition.specs.Blocks.{Block, free, used, total, ◌⟨⟩◌}
use Rattle.invariants.specs.Order.{out, Ordered, order_split, BlockAt, stands_at}
use Rattle.invariants.specs.Pieces.{pieces, Listed}
use Rattle.invariants.proofs.Pieces.{free_listed, used_listed}
use Rattle.tags.specs.Tag.{flags, Tagged}
use Rattle.tags.specs.Says.{Says, free_first, free_last, small, large, wide, pad, sentinel, inner}
use Rattle.tags.proofs.Says.{grain}

two : (c : ℕ) → 1 ≤ c → 1 < 2 ^ c
two zero h = absurd (omega arith)
two (suc c) h = omega (arith, pow_pos c)

module _ (c : ℕ) (xs : List Block) (o : Ordered out xs) (short : Listed c (pieces 0 xs)) where
  -- ---- a block is less than 2 ^ c grains long

  pub free_short : (y s : ℕ) → BlockAt y (free s) 0 xs → s < 2 ^ c
  free_short y s b = let p = stands_at y (free s) xs b in go p.before p.behind p.whole
    where
      go : (l r : List Block) → xs ≡ l ⟨⟩ free s ∷ r → s < 2 ^ c
      go l r e = free_listed c l r s (order_split l (free s ∷ r) (subst (Ordered out) e o)).1.2 (subst (λ (zs : List Block). Listed c (pieces 0 zs)) e short)

  pub used_short : (y s d : ℕ) → BlockAt y (used s d) 0 xs → s < 2 ^ c
  used_short y s d b = let p = stands_at y (used s d) xs b in go p.before p.behind p.whole
    where
      go : (l r : List Block) → xs ≡ l ⟨⟩ used s d ∷ r → s < 2 ^ c
      go l r e = used_listed c l r s d (order_split l (used s d ∷ r) (subst (Ordered out) e o)).1.2 (subst (λ (zs : List Block). Listed c (pieces 0 zs)) e short)

  -- ---- so a count is

  pub tag_short : (t : ℕ → ℕ) → Tagged t 0 xs → 1 ≤ c → (y : ℕ) → y < total xs → t y / flags < 2 ^ c
  tag_short t h p y k = let g = grain t xs o h y k in go g.x g.b g.i g.at g.says
    where
      is : (x : ℕ) (b d : Block) → BlockAt x b 0 xs → b ≡ d → BlockAt x d 0 xs
      is x b d a e = subst (λ (d : Block). BlockAt x d 0 xs) e a

      go : (x : ℕ) (b : Block) (i : ℕ) → BlockAt x b 0 xs → Says b i (t y) → t y / flags < 2 ^ c
      go x b i a (free_first s q z v) = omega (arith, free_short x s (is x b (free s) a q))
      go x b i a (free_last s q z f v) = omega (arith, free_short x s (is x b (free s) a q))
      go x b i a (small s q z v) = omega (arith, used_short x s 1 (is x b (used s 1) a q))
      go x b i a (large s q z v) = omega (arith, used_short x s 2 (is x b (used s 2) a q))
      go x b i a (wide s n q f f' z v) = omega (arith, used_short x s (2 * n) (is x b (used s (2 * n)) a q))
      go x b i a (pad s n q f f' z v) = omega (arith, used_short x s (2 * n) (is x b (used s (2 * n)) a q))
      go x b i a (sentinel q z v) = omega (arith, two c p)
      go x b i a (inner v) = omega (arith, pow_pos c)
