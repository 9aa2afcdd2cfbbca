-- What follows from specs/Row.antt.
use Rattle.std.specs.Prelude.{ℕ, ◌+◌, ◌≤◌, ◌<◌, ◌≡◌, List, [], ◌∷◌}
use Rattle.std.proofs.Common.{arith, add-zero, ◌∙◌}
use Rattle.definition.specs.Blocks.{Block, free, used, last, gap, size, total, ◌⟨⟩◌, room, past}
use Rattle.invariants.specs.Order.{Side, Ordered, OrderedL, some}
use Rattle.script.specs.Memory.{none}
use Rattle.sound.specs.Row.{Head, link, link_l, Row, Left}

pub row_split : (sz up : ℕ → ℕ) (l r : List Block) → Row sz up 0 none (l ⟨⟩ r) → Left sz up l × Row sz up (total l) (link_l l) r
row_split sz up [] r h = (tt, h)
row_split sz up (b ∷ l) r h = let i = row_split sz up l (b ∷ r) h in ((i.1.0, i.0), i.1.1)

pub row_join : (sz up : ℕ → ℕ) (l r : List Block) → Left sz up l → Row sz up (total l) (link_l l) r → Row sz up 0 none (l ⟨⟩ r)
row_join sz up [] r h k = k
row_join sz up (b ∷ l) r h k = row_join sz up l (b ∷ r) h.1 (h.0, k)

-- ---- what is no header of these blocks may change

pub head_keep : (sz up sz' up' : ℕ → ℕ) (x p p' : ℕ) (b : Block) → sz' x ≡ sz x → (up x ≡ p → up' x ≡ p') → Head sz up x p b → Head sz' up' x p' b
head_keep sz up sz' up' x p p' (free s) e f h = (e ∙ h.0, f h.1)
head_keep sz up sz' up' x p p' (used s d) e f h = (e ∙ h.0, f h.1)
head_keep sz up sz' up' x p p' last e f h = (e ∙ h.0, f h.1)
head_keep sz up sz' up' x p p' gap e f h = tt

pub left_keep : (sz up sz' up' : ℕ → ℕ) (l : List Block) → OrderedL l
    → ((y : ℕ) → y < total l → sz' y ≡ sz y) → ((y : ℕ) → y < total l → up' y ≡ up y) → Left sz up l → Left sz' up' l
left_keep sz up sz' up' [] w f g h = tt
left_keep sz up sz' up' (b ∷ l) w f g h =
    let lt : total l < total l + size b = omega (arith, some b w.1) in (
      head_keep sz up sz' up' (total l) (link_l l) (link_l l) b (f _ lt) (λ e. g _ lt ∙ e) h.0,
      left_keep sz up sz' up' l w.2 (λ y k. f y (omega arith)) (λ y k. g y (omega arith)) h.1,
    )

pub row_keep : (sz up sz' up' : ℕ → ℕ) (x p : ℕ) (r : List Block)
    → ((y : ℕ) → x ≤ y → sz' y ≡ sz y) → ((y : ℕ) → x ≤ y → up' y ≡ up y) → Row sz up x p r → Row sz' up' x p r
row_keep sz up sz' up' x p [] f g h = tt
row_keep sz up sz' up' x p (b ∷ r) f g h = (
  head_keep sz up sz' up' x p p b (f x (omega arith)) (λ e. g x (omega arith) ∙ e) h.0,
  row_keep sz up sz' up' (x + size b) (link x b) r (λ y k. f y (omega arith)) (λ y k. g y (omega arith)) h.1,
)

-- the block at x has another before it
pub row_relink : (sz up sz' up' : ℕ → ℕ) (x p p' : ℕ) (a : Side) (r : List Block) → Ordered a r
    → ((y : ℕ) → x ≤ y → sz' y ≡ sz y) → ((y : ℕ) → x < y → up' y ≡ up y) → up' x ≡ p' → Row sz up x p r → Row sz' up' x p' r
row_relink sz up sz' up' x p p' a [] w f g e h = tt
row_relink sz up sz' up' x p p' a (b ∷ r) w f g e h = (
  head_keep sz up sz' up' x p p' b (f x (omega arith)) (λ _. e) h.0,
  row_keep sz up sz' up' (x + size b) (link x b) r (λ y k. f y (omega arith)) (λ y k. g y (omega (arith, some b w.1))) h.1,
)

-- ---- what stands beside

pub left_past : (sz up : ℕ → ℕ) (l : List Block) → Left sz up l → up (total l) ≡ link_l l → Left sz up (past l) × (up (total (past l)) ≡ link_l (past l))
left_past sz up [] h e = (h, e)
left_past sz up (free s ∷ l) h e = (h.1, h.0.1)
left_past sz up (used s d ∷ l) h e = (h, e)
left_past sz up (last ∷ l) h e = (h, e)
left_past sz up (gap ∷ l) h e = (h, e)

pub right_past : (sz up : ℕ → ℕ) (x p : ℕ) (r : List Block) → Row sz up x p r → (p' : ℕ) × Row sz up (x + room r) p' (past r)
right_past sz up x p [] h = (p, tt)
right_past sz up x p (free s ∷ l) h = (x, h.1)
right_past sz up x p (used s d ∷ l) h = (p, rw (add-zero x) h)
right_past sz up x p (last ∷ l) h = (p, rw (add-zero x) h)
right_past sz up x p (gap ∷ l) h = (p, rw (add-zero x) h)
