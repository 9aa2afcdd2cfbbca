-- What follows from specs/Core.antt.
use Rattle.std.specs.Prelude.{ℕ, ◌+◌, ◌-◌, ◌≤◌, ◌<◌, ◌≡◌, refl, List, ◌∷◌}
use Rattle.std.proofs.Common.{arith, ◌∙◌, subst}
use Rattle.choice.specs.Choice.{upd, upd_same, upd_other}
use Rattle.definition.specs.Blocks.{Block, free, used, total, ◌⟨⟩◌, room, past}
use Rattle.invariants.specs.Order.{Side, Ordered, OrderedL}
use Rattle.invariants.proofs.Neighbours.{total_past}
use Rattle.script.specs.Memory.{none, free_word, used_word}
use Rattle.sound.specs.Row.{Row, Left, link_l}
use Rattle.sound.proofs.Row.{row_split, row_join, left_keep, row_relink, left_past, right_past}
use Rattle.sound.specs.Core.{Core, split_size, split_before}

-- ---- where it comes from: a free block; a used one with what is free behind it, or on both sides

pub core_free : (sz up : ℕ → ℕ) (l r : List Block) (s : ℕ) → Row sz up 0 none (l ⟨⟩ free s ∷ r) → Core sz up l s r
core_free sz up l r s h = let i = row_split sz up l (free s ∷ r) h in record { left = i.0; link = i.1.0.1; before = total l; right = i.1.1 }

module _ (sz up : ℕ → ℕ) (l r : List Block) (s d : ℕ) (h : Row sz up 0 none (l ⟨⟩ used s d ∷ r)) where
  pub core_behind : Core sz up l (s + room r) (past r)
  core_behind =
      let i = row_split sz up l (used s d ∷ r) h in
      let b = right_past sz up (total l + s) (total l) r i.1.1 in
      let e : total l + s + room r ≡ total l + (s + room r) = omega arith in
      record { left = i.0; link = i.1.0.1; before = b.0; right = subst (λ (x : ℕ). Row sz up x b.0 (past r)) e b.1 }

  pub core_both : Core sz up (past l) (room l + (s + room r)) (past r)
  core_both =
      let i = row_split sz up l (used s d ∷ r) h in
      let a = left_past sz up l i.0 i.1.0.1 in
      let b = right_past sz up (total l + s) (total l) r i.1.1 in
      let e : total l + s + room r ≡ total (past l) + (room l + (s + room r)) = omega (arith, total_past l) in
      record { left = a.0; link = a.1; before = b.0; right = subst (λ (x : ℕ). Row sz up x b.0 (past r)) e b.1 }

-- ---- what becomes of it

module _ (sz up : ℕ → ℕ) (l r : List Block) (t : ℕ) (k : Core sz up l t r) (w : OrderedL l) (a : Side) (o : Ordered a r) (p : 1 ≤ t) where
  one_left : (v : ℕ) → Left (upd sz (total l) v) (upd up (total l + t) (total l)) l
  one_left v = left_keep sz up _ _ l w (λ y h. upd_other sz (total l) v y (omega arith)) (λ y h. upd_other up (total l + t) (total l) y (omega arith)) k.left

  one_right : (v : ℕ) → Row (upd sz (total l) v) (upd up (total l + t) (total l)) (total l + t) (total l) r
  one_right v = row_relink sz up _ _ (total l + t) k.before (total l) a r o
      (λ y h. upd_other sz (total l) v y (omega arith)) (λ y h. upd_other up (total l + t) (total l) y (omega arith))
      (upd_same up (total l + t) (total l) (total l + t) refl) k.right

  one_link : upd up (total l + t) (total l) (total l) ≡ link_l l
  one_link = upd_other up (total l + t) (total l) (total l) (omega arith) ∙ k.link

  pub row_used : (d : ℕ) → Row (upd sz (total l) (used_word t)) (upd up (total l + t) (total l)) 0 none (l ⟨⟩ used t d ∷ r)
  row_used d = row_join _ _ l (used t d ∷ r) (one_left (used_word t)) ((upd_same sz (total l) (used_word t) (total l) refl, one_link), one_right (used_word t))

  pub row_free : Row (upd sz (total l) (free_word t)) (upd up (total l + t) (total l)) 0 none (l ⟨⟩ free t ∷ r)
  row_free = row_join _ _ l (free t ∷ r) (one_left (free_word t)) ((upd_same sz (total l) (free_word t) (total l) refl, one_link), one_right (free_word t))

  module _ (m : ℕ) (q : 1 ≤ m) (i : m < t) where
    far : (y : ℕ) → (y ≡ total l → ⊥) → (y ≡ total l + m → ⊥) → split_size sz (total l) t m y ≡ sz y
    far y e f = upd_other (upd sz (total l) (used_word m)) (total l + m) (free_word (t - m)) y f ∙ upd_other sz (total l) (used_word m) y e

    far_up : (y : ℕ) → (y ≡ total l + m → ⊥) → (y ≡ total l + t → ⊥) → split_before up (total l) t m y ≡ up y
    far_up y e f = upd_other (upd up (total l + m) (total l)) (total l + t) (total l + m) y f ∙ upd_other up (total l + m) (total l) y e

    pub row_split_used : (d : ℕ) → Row (split_size sz (total l) t m) (split_before up (total l) t m) 0 none (l ⟨⟩ used m d ∷ free (t - m) ∷ r)
    row_split_used d =
        let x = total l in
        let sz' = split_size sz x t m in
        let up' = split_before up x t m in
        let e : x + t ≡ x + m + (t - m) = omega arith in
        row_join sz' up' l (used m d ∷ free (t - m) ∷ r)
        (left_keep sz up sz' up' l w (λ y h. far y (omega arith) (omega arith)) (λ y h. far_up y (omega arith) (omega arith)) k.left) (
          (
            upd_other (upd sz x (used_word m)) (x + m) (free_word (t - m)) x (omega arith) ∙ upd_same sz x (used_word m) x refl,
            far_up x (omega arith) (omega arith) ∙ k.link,
          ),
          (
            (
              upd_same (upd sz x (used_word m)) (x + m) (free_word (t - m)) (x + m) refl,
              upd_other (upd up (x + m) x) (x + t) (x + m) (x + m) (omega arith) ∙ upd_same up (x + m) x (x + m) refl,
            ),
            subst (λ (y : ℕ). Row sz' up' y (x + m) r) e
                (row_relink sz up sz' up' (x + t) k.before (x + m) a r o
                (λ y h. far y (omega arith) (omega arith)) (λ y h. far_up y (omega arith) (omega arith))
                (upd_same (upd up (x + m) x) (x + t) (x + m) (x + t) refl) k.right),
          ),
        )
