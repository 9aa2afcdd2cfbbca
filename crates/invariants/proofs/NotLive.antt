-- What follows from specs/NotLive.antt.
use Rattle.std.specs.Prelude.{ℕ, ◌≡◌, refl, List, [], ◌∷◌}
use Rattle.std.proofs.Common.{sym, subst}
use Rattle.choice.specs.Choice.{eq_case}
use Rattle.definition.specs.Blocks.{Block, free, used, last, gap, total, ◌⟨⟩◌, Place, find, payload}
use Rattle.definition.specs.Calls.{Heap, not_live, Answer, refused, give_back_at, give_back, resize_at, resize}
use Rattle.invariants.specs.Order.{BlockAt, at_here}
use Rattle.invariants.specs.NotLive.{NotLive}

-- what holds of the list's end, and of each block that has the key, holds of what is found
pub find_case : (P : Place → Type 0) (key : ℕ → Block → ℕ) (v : ℕ) (l r : List Block) → ((a : List Block) → P (record { before = a; behind = [] }))
    → ((a : List Block) (b : Block) (c : List Block) → a ⟨⟩ b ∷ c ≡ l ⟨⟩ r → key (total a) b ≡ v → P (record { before = a; behind = b ∷ c })) → P (find key v l r)
unfolding find
find_case P key v l [] end here = end l
find_case P key v l (b ∷ r) end here = eq_case P (key (total l) b) v _ _ (here l b r refl) (λ _. find_case P key v (b ∷ l) r end here)

-- so an answer that refuses all that is not used is a refusal
refuses : (h : Heap) (q : ℕ) → NotLive h q → (g : List Block → List Block → Answer) → ((l : List Block) → g l [] ≡ refused not_live)
    → ((l r : List Block) (s : ℕ) → g l (free s ∷ r) ≡ refused not_live) → ((l r : List Block) → g l (last ∷ r) ≡ refused not_live)
    → ((l r : List Block) → g l (gap ∷ r) ≡ refused not_live) → g (find payload q [] h.blocks).before (find payload q [] h.blocks).behind ≡ refused not_live
refuses h q n g a b c e = find_case (λ (p : Place). g p.before p.behind ≡ refused not_live) payload q [] h.blocks a go
  where
    go : (l : List Block) (b : Block) (r : List Block) → l ⟨⟩ b ∷ r ≡ h.blocks → payload (total l) b ≡ q → g l (b ∷ r) ≡ refused not_live
    go l (free s) r i k = b l r s
    go l (used s d) r i k = absurd (n (total l) s d (subst (λ (A : List Block). BlockAt (total l) (used s d) 0 A) i (at_here l r (used s d))) (sym k))
    go l last r i k = c l r
    go l gap r i k = e l r

-- it can't be given back
pub not_live_back : (h : Heap) (q : ℕ) → NotLive h q → give_back h q ≡ refused not_live
unfolding give_back give_back_at
not_live_back h q n = refuses h q n (give_back_at h.lists) (λ l. refl) (λ l r s. refl) (λ l r. refl) (λ l r. refl)

-- nor resized
pub not_live_resize : (c : ℕ) (h : Heap) (q p a : ℕ) → NotLive h q → resize c h q p a ≡ refused not_live
unfolding resize resize_at
not_live_resize c h q p a n = refuses h q n (resize_at c h q p a) (λ l. refl) (λ l r s. refl) (λ l r. refl) (λ l r. refl)
