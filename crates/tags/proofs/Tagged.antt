-- The tags of a list of blocks, grain by grain: `Tagged` is the same as that each tag is `tag_at`. A list and its two
-- parts; and tags that stay.
use Prim.Native.Nat.{ℕ, suc, ◌+◌, ◌-◌, ◌≤◌, ◌<◌}
use native.Mathlib.Omega.{arith}
use Rattle.std.specs.Prelude.{◌≡◌, ◌⊎◌}
use Rattle.std.proofs.Math.Path.{ap, sym}
use Rattle.std.proofs.Common.{◌∙◌, subst, inl, inr}
use mathlib.Core.List.{List, [], ◌∷◌, ◌++◌}
use Rattle.std.proofs.Math.Logic.{⊎_elim}
use Rattle.choice.specs.Choice.{le?, le_yes, le_no}
use Rattle.definition.specs.Blocks.{Block, size, total, ◌⟨⟩◌}
use Rattle.invariants.specs.Order.{BlockAt}
use Rattle.tags.specs.Tag.{tag_in, tag_at, Laid, Tagged, TaggedL}

module _ (t : ℕ → ℕ) where
  pub tagged_of : (x : ℕ) (r : List Block) → ((y : ℕ) → y < total r → t (x + y) ≡ tag_at r y) → Tagged t x r
  unfolding tag_at
  tagged_of x [] h = tt
  tagged_of x (b ∷ r) h = (
    (λ i k. h i (omega arith) ∙ le_yes (suc i) (size b) _ _ (omega arith)),
    tagged_of (x + size b) r (λ y k.
        let e : x + size b + y ≡ x + (size b + y) = omega arith in
        let g : size b + y - size b ≡ y = omega arith in
        ap t e ∙ h (size b + y) (omega arith) ∙ le_no (suc (size b + y)) (size b) _ _ (λ q. omega arith) ∙ ap (tag_at r) g),
  )

  pub tagged_to : (x : ℕ) (r : List Block) → Tagged t x r → (y : ℕ) → y < total r → t (x + y) ≡ tag_at r y
  unfolding tag_at
  tagged_to x [] h y k = elim k [ ]
  tagged_to x (b ∷ r) h y k = ⊎_elim
      (λ (q : suc y ≤ size b). h.0 y (omega arith) ∙ sym (le_yes (suc y) (size b) _ _ q))
      (λ (q : size b < suc y).
      let e : x + y ≡ x + size b + (y - size b) = omega arith in
      ap t e ∙ tagged_to (x + size b) r h.1 (y - size b) (omega arith) ∙ sym (le_no (suc y) (size b) _ _ (λ g. omega arith)))
      (le? (suc y) (size b))

  -- ---- a list and its two parts

  pub tagged_split : (l r : List Block) → Tagged t 0 (l ⟨⟩ r) → TaggedL t l × Tagged t (total l) r
  tagged_split [] r h = (tt, h)
  tagged_split (b ∷ l) r h = let i = tagged_split l (b ∷ r) h in ((i.1.0, i.0), i.1.1)

  pub tagged_join : (l r : List Block) → TaggedL t l → Tagged t (total l) r → Tagged t 0 (l ⟨⟩ r)
  tagged_join [] r h k = k
  tagged_join (b ∷ l) r h k = tagged_join l (b ∷ r) h.1 (h.0, k)

  -- ---- one block of the list

  pub tagged_at : (y : ℕ) (b : Block) (x : ℕ) (r : List Block) → Tagged t x r → BlockAt y b x r → Laid t y b
  tagged_at y b x [] h x4 = elim x4 [ ]
  tagged_at y b x (c ∷ r) h (inl e) = subst (λ (c : Block). Laid t y c) e.1 (rw e.0 h.0)
  tagged_at y b x (c ∷ r) h (inr k) = tagged_at y b (x + size c) r h.1 k

-- ---- frames: where the tags stay the same, they are those of the same blocks

module _ (t u : ℕ → ℕ) where
  pub tagged_keep : (x : ℕ) (r : List Block) → ((y : ℕ) → x ≤ y → u y ≡ t y) → Tagged t x r → Tagged u x r
  tagged_keep x [] f h = tt
  tagged_keep x (b ∷ r) f h = ((λ i k. f (x + i) (omega arith) ∙ h.0 i k), tagged_keep (x + size b) r (λ y k. f y (omega arith)) h.1)

  pub tagged_l_keep : (l : List Block) → ((y : ℕ) → y < total l → u y ≡ t y) → TaggedL t l → TaggedL u l
  tagged_l_keep [] f h = tt
  tagged_l_keep (b ∷ l) f h = ((λ i k. f (total l + i) (omega arith) ∙ h.0 i k), tagged_l_keep l (λ y k. f y (omega arith)) h.1)

-- ---- locality: where a middle part is replaced by another of the same size, no tag outside it changes

-- the tags after some blocks
tag_after : (l r : List Block) (y : ℕ) → tag_at (l ⟨⟩ r) (total l + y) ≡ tag_at r y
unfolding tag_at
tag_after [] r y = let e : 0 + y ≡ y = omega arith in ap (tag_at r) e
tag_after (b ∷ l) r y =
    let e : total l + size b + y ≡ total l + (size b + y) = omega arith in
    let g : size b + y - size b ≡ y = omega arith in
    ap (tag_at (l ⟨⟩ b ∷ r)) e ∙ tag_after l (b ∷ r) (size b + y) ∙ le_no (suc (size b + y)) (size b) _ _ (λ q. omega arith) ∙ ap (tag_at r) g

-- the tags before depend on the blocks before
tag_before : (l r k : List Block) (y : ℕ) → y < total l → tag_at (l ⟨⟩ r) y ≡ tag_at (l ⟨⟩ k) y
unfolding tag_at
tag_before [] r k y h = absurd (omega arith)
tag_before (b ∷ l) r k y h = ⊎_elim
    (λ (q : suc y ≤ total l). tag_before l (b ∷ r) (b ∷ k) y (omega arith))
    (λ (q : total l < suc y). here r q ∙ sym (here k q))
    (le? (suc y) (total l))
  where
    here : (r : List Block) → total l < suc y → tag_at (l ⟨⟩ b ∷ r) y ≡ tag_in b (y - total l)
    here r q =
        let e : y ≡ total l + (y - total l) = omega arith in
        ap (tag_at (l ⟨⟩ b ∷ r)) e ∙ tag_after l (b ∷ r) (y - total l) ∙ le_yes (suc (y - total l)) (size b) _ _ (omega arith)

tag_past : (m r : List Block) (y : ℕ) → tag_at (m ++ r) (total m + y) ≡ tag_at r y
unfolding tag_at
tag_past [] r y = let e : 0 + y ≡ y = omega arith in ap (tag_at r) e
tag_past (b ∷ m) r y =
    let e : total m + size b + y - size b ≡ total m + y = omega arith in
    le_no (suc (total m + size b + y)) (size b) _ _ (λ q. omega arith) ∙ ap (tag_at (m ++ r)) e ∙ tag_past m r y

pub locality : (l m k r : List Block) → total m ≡ total k → (y : ℕ) → (y < total l) ⊎ (total l + total m ≤ y) → tag_at (l ⟨⟩ (m ++ r)) y ≡ tag_at (l ⟨⟩ (k ++ r)) y
locality l m k r e y (inl h) = tag_before l (m ++ r) (k ++ r) y h
locality l m k r e y (inr h) = let z = y - (total l + total m) in rest m z (omega arith) ∙ sym (rest k z (omega arith))
  where
    rest : (m : List Block) (z : ℕ) → y ≡ total l + (total m + z) → tag_at (l ⟨⟩ (m ++ r)) y ≡ tag_at r z
    rest m z q = ap (tag_at (l ⟨⟩ (m ++ r))) q ∙ tag_after l (m ++ r) (total m + z) ∙ tag_past m r z
