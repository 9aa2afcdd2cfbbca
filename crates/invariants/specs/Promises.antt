-- What a take promises. It is refused exactly when every list that its search looks at is empty, and so never while a
-- free block has 17/16 of what it looks for. What it grants is aligned, long enough, and was free; all blocks in use stay.
use Rattle.std.specs.Prelude.{ℕ, zero, suc, ◌+◌, ◌-◌, ◌*◌, ◌%◌, ◌≤◌, ◌<◌, ◌≡◌, refl, List, [], ◌∷◌, ◌⊎◌}
use Rattle.std.proofs.Common.{arith, ap, ◌∙◌, ⊎_elim}
use Rattle.choice.specs.Choice.{same?}
use Rattle.class.specs.Class.{list_of, start_of}
use Rattle.definition.specs.Blocks.{Block, free, used, total, ◌⟨⟩◌}
use Rattle.definition.specs.Lists.{Lists, drop, Found, nothing, found, head_or, search}
use Rattle.definition.specs.Calls.{Heap, no_list, refused, granted, wanted, place, keeps, leave, take_at, take}
use Rattle.invariants.specs.Order.{BlockAt}
use Rattle.invariants.specs.Moves.{Ok}
use Rattle.invariants.specs.Kept.{Solid}

-- ---- the search

-- list j is the first of the n lists from k on that is not empty, and x is its head
pub record Finds (f : Lists) (n k j x : ℕ) : Type 0 where
  pub low : k ≤ j
  pub high : j < k + n
  pub rest : List ℕ
  pub list : f j ≡ x ∷ rest
  pub first : (i : ℕ) → k ≤ i → i < j → f i ≡ []

-- nothing is found where all lists are empty
pub search_none : (f : Lists) (n k : ℕ) → ((i : ℕ) → k ≤ i → i < k + n → f i ≡ []) → search f n k ≡ nothing
unfolding search head_or
search_none f zero k h = refl
search_none f (suc n) k h =
    ap (λ (l : List ℕ). head_or k l (search f n (suc k))) (h k (omega arith) (omega arith))
    ∙ search_none f n (suc k) (λ i a b. h i (omega arith) (omega arith))

-- and only there
pub search_empty : (f : Lists) (n k : ℕ) → search f n k ≡ nothing → (i : ℕ) → k ≤ i → i < k + n → f i ≡ []
unfolding search head_or
search_empty f zero k e i a b = absurd (omega arith)
search_empty f (suc n) k e i a b = go (f k) refl (λ q n'. search_empty f n (suc k) q i n' (omega arith)) e
  where
    go : (l : List ℕ) → f k ≡ l → (search f n (suc k) ≡ nothing → suc k ≤ i → f i ≡ []) → head_or k l (search f n (suc k)) ≡ nothing → f i ≡ []
    go [] p g e = ⊎_elim (λ (q : i ≡ k). ap f q ∙ p) (λ (q : i ≡ k → ⊥). g e (omega (arith, q))) (same? i k)
    go (y ∷ l) p g e = let z : ◌≡◌ {A = ℕ} 0 1 = cc in absurd (omega arith)

-- ---- what take does with what is found

-- the free block of list k at y, and the heap with p half grains of it taken at a multiple of a
pub record Took (c : ℕ) (h : Heap) (p a k y : ℕ) : Type 0 where
  pub s : ℕ
  pub l : List Block
  pub r : List Block
  pub whole : h.blocks ≡ l ⟨⟩ free s ∷ r
  pub stands : y ≡ total l
  pub list : list_of s ≡ k
  pub enough : wanted p a ≤ s
  pub answer : take c h p a ≡ granted (2 * y + place a y) (leave (drop k y h.lists) l r s (keeps (place a y) p) (place a y))
  pub ok : Ok c (leave (drop k y h.lists) l r s (keeps (place a y) p) (place a y))

-- where a search for p half grains at a multiple of a looks
abbrev pub sought : ℕ → Heap → ℕ → ℕ → Found
sought c h p a = let k = start_of (wanted p a) in search h.lists (16 * c - k) k

-- ---- T6: when it is refused

-- a take is refused where nothing is found
none_found : (h : Heap) (p a : ℕ) (w : Found) → take_at h p a w ≡ refused no_list → w ≡ nothing
unfolding take_at
none_found h p a nothing e = refl
none_found h p a (found k x) e = let z : ◌≡◌ {A = ℕ} 0 1 = cc in absurd (omega arith)

-- exactly when every list that the search looks at is empty
pub refused_exactly : (c : ℕ) (h : Heap) (p a : ℕ)
    → (take c h p a ≡ refused no_list → (j : ℕ) → start_of (wanted p a) ≤ j → j < 16 * c → h.lists j ≡ [])
    × (((j : ℕ) → start_of (wanted p a) ≤ j → j < 16 * c → h.lists j ≡ []) → take c h p a ≡ refused no_list)
unfolding take take_at
refused_exactly c h p a =
    let k = start_of (wanted p a) in (
      (λ e j u v. search_empty h.lists (16 * c - k) k (none_found h p a (sought c h p a) e) j u (omega arith)),
      (λ g. ap (take_at h p a) (search_none h.lists (16 * c - k) k (λ j u v. g j u (omega arith)))),
    )

-- ---- T7: what is granted

-- the payload q, of p half grains at a multiple of a, in the block of s grains at x of the heap k: a part of what was
-- free in h. What is not free in h stays, and is all else that is not free in k.
pub record Granted (c : ℕ) (h : Heap) (p a q : ℕ) (k : Heap) : Type 0 where
  pub x : ℕ
  pub s : ℕ
  pub d : ℕ
  pub here : BlockAt x (used s d) 0 k.blocks
  pub payload : q ≡ 2 * x + d
  pub aligned : q % a ≡ 0
  pub long : d + p ≤ 2 * s
  pub was : ℕ
  pub part : s ≤ was
  pub free_before_lem : BlockAt x (free was) 0 h.blocks
  pub kept : (y : ℕ) (b : Block) → Solid b → BlockAt y b 0 h.blocks → BlockAt y b 0 k.blocks
  pub only : (y : ℕ) (b : Block) → Solid b → BlockAt y b 0 k.blocks → ((y ≡ x) × (used s d ≡ b)) ⊎ BlockAt y b 0 h.blocks
  pub ok : Ok c k
