-- A memory after a plan's writes is sound again: what is left to show once the row and the lists are in order.
use Rattle.std.specs.Prelude.{ℕ, ◌+◌, ◌-◌, ◌/◌, ◌%◌, ◌≤◌, ◌≡◌, List, ◌∷◌}
use Rattle.std.proofs.Common.{arith, sym, ◌∙◌, subst, ⊎_elim}
use Rattle.choice.specs.Choice.{eq_case}
use Rattle.definition.specs.Blocks.{Block, free, used, gap, total}
use Rattle.definition.specs.Lists.{Lists}
use Rattle.definition.specs.Calls.{Heap, leave}
use Rattle.invariants.specs.Order.{out, Whole, BlockAt, Apart, same, before, behind}
use Rattle.invariants.proofs.Order.{total_zip, apart, at_whole}
use Rattle.invariants.specs.Moves.{Ok}
use Rattle.script.specs.Memory.{Memory, Prev, Table, none, Write}
use Rattle.sound.specs.Sound.{Sound, Lively, Given}
use Rattle.sound.specs.Leave.{LeavesIn}
use Rattle.sound.specs.Swaps.{Swaps}
use Rattle.sound.proofs.Swaps.{lively_same, pad_inside, pad_free, padded_change, given_same, used_place}
use Rattle.sound.specs.Finish.{Finished}
use Rattle.invariants.proofs.Gaps.{gap_used}
use Rattle.sound.proofs.Founded.{sound_founded, pad_grain}

-- what leave makes of t grains
pub leave_total : (f : Lists) (l r : List Block) (t k d : ℕ) → k ≤ t → total (leave f l r t k d).blocks ≡ total l + t + total r
unfolding leave
leave_total f l r t k d h = eq_case (λ (g : Heap). total g.blocks ≡ total l + t + total r) k t _ _
    (λ e. omega (arith, total_zip l (used t d ∷ r))) (λ n. omega (arith, total_zip l (used k d ∷ free (t - k) ∷ r)))

-- the word before a payload is no more none than its grain
pub pad_some : (n c : ℕ) (m : Memory) (h : Heap) → Sound n c m h → (y s e : ℕ) → BlockAt y (used s e) 0 h.blocks → e % 2 ≡ 0 → y + e / 2 - 1 ≡ none → ⊥
pad_some n c m h o = pad_grain n c m h.blocks h.lists (sound_founded n c m h o)

module _ (n c : ℕ) (m u : Memory) (h g : Heap) (o : Sound n c m h) (ok : Ok c g) (x : ℕ) (old : Block) (z : ℕ) (new : Block) (w : Swaps h.blocks g.blocks x old z new)
    (go : old ≡ gap → ⊥) (gn : new ≡ gap → ⊥) (t : total g.blocks ≡ total h.blocks) where
  -- the gaps are the same
  pub gaps_stay : u Table ≡ m Table → Given u g.blocks
  gaps_stay e = given_same m u h.blocks g.blocks o.given e t
      (λ y b. ⊎_elim (λ (i : (y ≡ x) × (old ≡ gap)). absurd (go i.1)) (λ (i : BlockAt y gap 0 g.blocks). i) (w.forth y gap tt b))
      (λ y b. ⊎_elim (λ (i : (y ≡ z) × (new ≡ gap)). absurd (gn i.1)) (λ (i : BlockAt y gap 0 h.blocks). i) (w.back y gap tt b))

-- a payload is placed anew
pub settle : (n c : ℕ) (m u : Memory) (h g : Heap) → Sound n c m h → Ok c g → (x : ℕ) (old : Block) (z k d : ℕ) → Swaps h.blocks g.blocks x old z (used k d)
    → (old ≡ gap → ⊥) → BlockAt z (used k d) 0 g.blocks → (BlockAt z (used k d) 0 h.blocks → ⊥) → total g.blocks ≡ total h.blocks
    → (l : List Write) → Finished m h.lists u g z d l → Lively u g.blocks → Sound n c u g
settle n c m u h g o ok x old z k d w go here fresh t l fin live = record {
  heap = ok;
  whole = t ∙ o.whole;
  small = o.small;
  row = fin.row;
  strung = fin.strung;
  lively = live;
  padded = padded_change m u h.blocks g.blocks x old z (used k d) o.padded w
      (λ k' d' e v. let q = used_place e in subst (λ (j : ℕ). u Prev (z + j / 2 - 1) ≡ z) q (fin.pad (subst (λ (j : ℕ). j % 2 ≡ 0) (sym q) v)))
      (λ y s e a b v. fin.quiet (y + e / 2 - 1) (pad_some n c m h o y s e a v) (pad_free c h.blocks h.lists y s e o.heap a v) (pad_free c g.blocks g.lists y s e ok b v)
      (λ i q. differ y s e a b v i q (apart z y 0 (used k d) (used s e) g.blocks here b)));
  given = gaps_stay n c m u h g o ok x old z (used k d) w go gap_used t fin.table;
}
  where
    differ : (y s e : ℕ) → BlockAt y (used s e) 0 h.blocks → BlockAt y (used s e) 0 g.blocks → e % 2 ≡ 0 → d % 2 ≡ 0 → y + e / 2 - 1 ≡ z + d / 2 - 1
        → Apart z (used k d) y (used s e) → ⊥
    differ y s e a b v i q (same p r) = fresh (subst (λ (c : Block). BlockAt z c 0 h.blocks) (sym r) (subst (λ (j : ℕ). BlockAt j (used s e) 0 h.blocks) (sym p) a))
    differ y s e a b v i q (before p) =
        let f : Whole (used k d) = at_whole z (used k d) 0 out g.blocks ok.order here in
        let j : Whole (used s e) = at_whole y (used s e) 0 out g.blocks ok.order b in
        omega (arith, pad_inside z k d f.1 i, pad_inside y s e j.1 v)
    differ y s e a b v i q (behind p) =
        let f : Whole (used k d) = at_whole z (used k d) 0 out g.blocks ok.order here in
        let j : Whole (used s e) = at_whole y (used s e) 0 out g.blocks ok.order b in
        omega (arith, pad_inside z k d f.1 i, pad_inside y s e j.1 v)

-- a block is resized in place, its payload stays
pub settle_same : (n c : ℕ) (m u : Memory) (h g : Heap) → Sound n c m h → Ok c g → (x s k d : ℕ) → Swaps h.blocks g.blocks x (used s d) x (used k d)
    → BlockAt x (used s d) 0 h.blocks → BlockAt x (used k d) 0 g.blocks → total g.blocks ≡ total h.blocks → LeavesIn m h.lists u g → Sound n c u g
settle_same n c m u h g o ok x s k d w a b t lv = record {
  heap = ok;
  whole = t ∙ o.whole;
  small = o.small;
  row = lv.row;
  strung = lv.strung;
  lively = lively_same m u h.blocks g.blocks o.lively x s k d w a b lv.live;
  padded = padded_change m u h.blocks g.blocks x (used s d) x (used k d) o.padded w
      (λ k' d' e v. let q = used_place e in subst (λ (j : ℕ). u Prev (x + j / 2 - 1) ≡ x) q
      (still x s k d a b (subst (λ (j : ℕ). j % 2 ≡ 0) (sym q) v) ∙ o.padded x s d a (subst (λ (j : ℕ). j % 2 ≡ 0) (sym q) v)))
      (λ y i e p q v. still y i i e p q v);
  given = gaps_stay n c m u h g o ok x (used s d) x (used k d) w gap_used gap_used t lv.table;
}
  where
    still : (y i j e : ℕ) → BlockAt y (used i e) 0 h.blocks → BlockAt y (used j e) 0 g.blocks → e % 2 ≡ 0 → u Prev (y + e / 2 - 1) ≡ m Prev (y + e / 2 - 1)
    still y i j e p q v = lv.quiet (y + e / 2 - 1) (pad_some n c m h o y i e p v) (pad_free c h.blocks h.lists y i e o.heap p v) (pad_free c g.blocks g.lists y j e ok q v)
