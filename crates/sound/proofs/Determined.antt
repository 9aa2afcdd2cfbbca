-- A memory stands for one heap at most. Block by block: the table says which grains are gaps, a size word says what
-- else stands there, and the live bits where a used block's payload is. A list is what its root leads to.
use Rattle.std.specs.Prelude.{ℕ, ◌+◌, ◌*◌, ◌≤◌, ◌≡◌, refl, List, [], ◌∷◌}
use Rattle.std.proofs.Common.{arith, ap, sym, ◌∙◌, subst, inl, inr, ⊎_elim}
use Rattle.definition.specs.Blocks.{Block, free, used, last, gap, size, total, ◌⟨⟩◌}
use Rattle.definition.specs.Lists.{Lists}
use Rattle.definition.specs.Calls.{Heap}
use Rattle.invariants.specs.Order.{out, Inside, some, order_split, BlockAt, at_here, Apart, same, before, behind}
use Rattle.invariants.proofs.Order.{total_zip, at_whole, apart}
use Rattle.invariants.specs.Members.{Mem}
use Rattle.script.specs.Memory.{Memory, Size, Before, Next, Prev, none, root}
use Rattle.sound.specs.Row.{Head, link_l}
use Rattle.sound.proofs.Row.{row_split}
use Rattle.sound.specs.Chain.{Chain}
use Rattle.sound.specs.Sound.{Sound}
use Rattle.sound.proofs.Seen.{lists_real}

-- ---- the lists

-- a chain is what its node leads to
pub chain_same : (nx pv : ℕ → ℕ) (n w v : ℕ) (l k : List ℕ) → (Mem none l → ⊥) → (Mem none k → ⊥) → Chain nx pv n w l → Chain nx pv n v k → l ≡ k
chain_same nx pv n w v [] [] a b c d = refl
chain_same nx pv n w v [] (z ∷ k) a b c d = absurd (b (inl (sym c ∙ d.0)))
chain_same nx pv n w v (y ∷ l) [] a b c d = absurd (a (inl (sym d ∙ c.0)))
chain_same nx pv n w v (y ∷ l) (z ∷ k) a b c d =
    let e : y ≡ z = sym c.0 ∙ d.0 in
    let i = chain_same nx pv z z z l k (λ q. a (inr q)) (λ q. b (inr q)) (subst (λ u. Chain nx pv u u l) e c.2) d.2 in
    cc

-- so the roots decide all lists
same_lists : (n c : ℕ) (m : Memory) (h k : Heap) → Sound n c m h → Sound n c m k → (j : ℕ) → h.lists j ≡ k.lists j
same_lists n c m h k a b j = chain_same (m Next) (m Prev) (root j) none none (h.lists j) (k.lists j)
    (λ i. omega (arith, lists_real n c m h a j none i)) (λ i. omega (arith, lists_real n c m k b j none i)) (a.strung.links j) (b.strung.links j)

-- ---- the blocks

-- of two lists of blocks, the same up to some block
module _ (n c : ℕ) (m : Memory) where
  -- the memory stands for these blocks and lists
  abbrev Of : Lists → List Block → Type 0
  Of f xs = Sound n c m (record { blocks = xs; lists = f })

  -- where one has a gap the other has
  same_gap : (f g : Lists) (l r t : List Block) (b : Block) → Of f (l ⟨⟩ gap ∷ r) → Of g (l ⟨⟩ b ∷ t) → b ≡ gap
  same_gap f g l r t b A B =
      let w = some b (order_split l (b ∷ t) B.heap.order).1.1 in
      let h : BlockAt (total l) gap 0 (l ⟨⟩ b ∷ t) = ⊎_elim (λ i. i) (λ i. absurd (A.given.never (total l) (at_here l r gap) i))
      (B.given.either (total l) (omega (arith, total_zip l (b ∷ t)))) in
      go w (apart (total l) (total l) 0 b gap (l ⟨⟩ b ∷ t) (at_here l t b) h)
    where
      go : 1 ≤ size b → Apart (total l) b (total l) gap → b ≡ gap
      go w (same p q) = q
      go w (before p) = absurd (omega arith)
      go w (behind p) = absurd (omega arith)

  -- a used block's payload is where the live bit is
  same_place : (f g : Lists) (l r t : List Block) (s d e : ℕ) → Of f (l ⟨⟩ used s d ∷ r) → Of g (l ⟨⟩ used s e ∷ t) → d ≡ e
  same_place f g l r t s d e A B =
      let v = B.lively.real (2 * total l + d) (A.lively.set (total l) s d (at_here l r (used s d))) in
      go v.0 v.1 v.2 v.4
      (at_whole v.0 (used v.1 v.2) 0 out (l ⟨⟩ used s e ∷ t) B.heap.order v.3).1
      (order_split l (used s d ∷ r) A.heap.order).1.1.1
      (apart (total l) v.0 0 (used s e) (used v.1 v.2) (l ⟨⟩ used s e ∷ t) (at_here l t (used s e)) v.3)
    where
      go : (y u v : ℕ) → 2 * total l + d ≡ 2 * y + v → Inside u v → Inside s d → Apart (total l) (used s e) y (used u v) → d ≡ e
      go y u v q i j (same p b) = let z : e ≡ v = cc in omega arith
      go y u v q i j (before p) = absurd (omega (arith, i.some, j.within))
      go y u v q i j (behind p) = absurd (omega (arith, i.within, j.some))

  -- the next block is the same
  same_block : (f g : Lists) (l r t : List Block) (a b : Block) → Of f (l ⟨⟩ a ∷ r) → Of g (l ⟨⟩ b ∷ t) → a ≡ b
  same_block f g l r t a b A B = go a b A B (row_split (m Size) (m Before) l (a ∷ r) A.row).1.0 (row_split (m Size) (m Before) l (b ∷ t) B.row).1.0
    where
      go : (a b : Block) → Of f (l ⟨⟩ a ∷ r) → Of g (l ⟨⟩ b ∷ t) → Head (m Size) (m Before) (total l) (link_l l) a → Head (m Size) (m Before) (total l) (link_l l) b → a ≡ b
      go (free s) (free u) A B h k = ap free (omega (arith, h.0, k.0))
      go (free s) (used u e) A B h k = absurd (omega (arith, h.0, k.0))
      go (free s) last A B h k = absurd (omega (arith, h.0, k.0))
      go (free s) gap A B h k = same_gap g f l t r (free s) B A
      go (used s d) (free u) A B h k = absurd (omega (arith, h.0, k.0))
      go (used s d) (used u e) A B h k =
          let p : s ≡ u = omega (arith, h.0, k.0) in
          let q : d ≡ e = same_place f g l r t s d e A (subst (λ v. Of g (l ⟨⟩ used v e ∷ t)) (sym p) B) in
          cc
      go (used s d) last A B h k = absurd (omega (arith, h.0, k.0))
      go (used s d) gap A B h k = same_gap g f l t r (used s d) B A
      go last (free u) A B h k = absurd (omega (arith, h.0, k.0))
      go last (used u e) A B h k = absurd (omega (arith, h.0, k.0))
      go last last A B h k = refl
      go last gap A B h k = same_gap g f l t r last B A
      go gap b A B h k = sym (same_gap f g l r t b A B)

  -- a list that ends has no more grains
  ended : (f g : Lists) (l t : List Block) (b : Block) → Of f (l ⟨⟩ []) → Of g (l ⟨⟩ b ∷ t) → ⊥
  ended f g l t b A B =
      let w = some b (order_split l (b ∷ t) B.heap.order).1.1 in
      omega (arith, total_zip l [], total_zip l (b ∷ t), A.whole, B.whole)

  -- and so are all that follow
  same_rest : (f g : Lists) (l r t : List Block) → Of f (l ⟨⟩ r) → Of g (l ⟨⟩ t) → r ≡ t
  same_rest f g l [] [] A B = refl
  same_rest f g l [] (b ∷ t) A B = absurd (ended f g l t b A B)
  same_rest f g l (a ∷ r) [] A B = absurd (ended g f l r a B A)
  same_rest f g l (a ∷ r) (b ∷ t) A B =
      let e = same_block f g l r t a b A B in
      let i = same_rest f g (a ∷ l) r t A (subst (λ v. Of g (l ⟨⟩ v ∷ t)) (sym e) B) in
      cc

-- ---- the heap

-- the same blocks, and the same lists
pub determined : (n c : ℕ) (m : Memory) (h k : Heap) → Sound n c m h → Sound n c m k → (h.blocks ≡ k.blocks) × ((j : ℕ) → h.lists j ≡ k.lists j)
determined n c m h k a b = (same_rest n c m h.lists k.lists [] h.blocks k.blocks a b, same_lists n c m h k a b)
