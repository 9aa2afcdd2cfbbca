-- A piece comes: the tags of k grains that were not given become those of a free block and its sentinel.
use Rattle.std.specs.Prelude.{ℕ, zero, suc, ◌+◌, ◌-◌, ◌≤◌, ◌<◌, ◌≡◌, List, ◌∷◌}
use Rattle.std.proofs.Common.{arith, ap, ◌∙◌, subst, inl, inr, ⊎_elim}
use Rattle.choice.specs.Choice.{upd_same, upd_other}
use Rattle.definition.specs.Blocks.{Block, free, last, total, ◌⟨⟩◌, gaps}
use Rattle.tags.specs.Tag.{Tagged}
use Rattle.tags.proofs.Tagged.{tagged_split, tagged_join}
use Rattle.tags.specs.Stamps.{lay_free, piece_stamp}
use Rattle.tags.proofs.Stamps.{lay_free_keep, hollow_laid}
use Rattle.tags.specs.Changes.{Around}
use Rattle.tags.proofs.Changes.{around_keep}

-- gaps are blank
pub gaps_blank : (t : ℕ → ℕ) (x k : ℕ) (r : List Block) → Tagged t x (gaps k r) → ((i : ℕ) → i < k → t (x + i) ≡ 0) × Tagged t (x + k) r
gaps_blank t x zero r h = let e : x ≡ x + 0 = omega arith in ((λ i a. absurd (omega arith)), subst (λ (y : ℕ). Tagged t y r) e h)
gaps_blank t x (suc k) r h =
    let g = gaps_blank t (x + 1) k r h.1 in
    let e : x + 1 + k ≡ x + suc k = omega arith in
    (blank g.0, subst (λ (y : ℕ). Tagged t y r) e g.1)
  where
    blank : ((i : ℕ) → i < k → t (x + 1 + i) ≡ 0) → (i : ℕ) → i < suc k → t (x + i) ≡ 0
    blank f zero a = h.0 0 (omega arith)
    blank f (suc i) a = let e : x + suc i ≡ x + 1 + i = omega arith in ap t e ∙ f i (omega arith)

pub piece_stamp_lem : (t : ℕ → ℕ) (l r : List Block) (k : ℕ) → 2 ≤ k → Tagged t 0 (l ⟨⟩ gaps k r) → Tagged (piece_stamp t (total l) k) 0 (l ⟨⟩ free (k - 1) ∷ last ∷ r)
piece_stamp_lem t l r k p h =
    let x = total l in
    let i = tagged_split t l (gaps k r) h in
    let g = gaps_blank t x k r i.1 in
    let u = lay_free t x (k - 1) in
    let v = piece_stamp t x k in
    let e : x + k ≡ x + (k - 1) + 1 = omega arith in
    let w : Around v l k r = around_keep t v l k r
    (λ y o. upd_other u (x + (k - 1)) _ y (⊎_elim (λ (a : y < x). omega arith) (λ (a : x + k ≤ y). omega arith) o)
    ∙ lay_free_keep t x (k - 1) (omega arith) y (⊎_elim (λ (a : y < x). inl a) (λ (a : x + k ≤ y). inr (omega arith)) o)) (record { left = i.0; right = g.1 }) in
    tagged_join v l (free (k - 1) ∷ last ∷ r) w.left (
      (λ j a. upd_other u (x + (k - 1)) _ (x + j) (omega arith) ∙ hollow_laid t x (k - 1) (λ y b c. g.0 y (omega arith)) j a),
      ((λ j a. upd_same u (x + (k - 1)) _ (x + (k - 1) + j) (omega arith)), subst (λ (y : ℕ). Tagged v y r) e w.right),
    )
