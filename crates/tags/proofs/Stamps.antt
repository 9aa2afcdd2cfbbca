-- What follows from specs/Stamps.antt.
use Rattle.std.specs.Prelude.{ℕ, suc, ◌+◌, ◌-◌, ◌/◌, ◌≤◌, ◌<◌, ◌≡◌, refl}
use Rattle.std.proofs.Common.{arith, ap, sym, ◌∙◌, inl, inr, ⊎_elim}
use Rattle.choice.specs.Choice.{if_eq, eq_no, le?, le_case, eq_case, same?, upd, upd_same, upd_other}
use Rattle.definition.specs.Blocks.{free, used}
use Rattle.invariants.specs.Order.{Inside}
use Rattle.tags.specs.Tag.{end_tag, pad_tag, Laid}
use Rattle.tags.specs.Stamps.{Padded, Bare, Hollow, Outside, clear_free, clear_pad, lay_pad, lay_first, lay_free, clear_before}

-- ---- frames: the grains outside keep their tags

pub outside_other : (x k y z : ℕ) → Outside x k y → x ≤ z → z < x + k → y ≡ z → ⊥
outside_other x k y z (inl h) a b e = omega arith
outside_other x k y z (inr h) a b e = omega arith

module _ (t : ℕ → ℕ) (x s : ℕ) (some : 1 ≤ s) (y : ℕ) (h : Outside x s y) where
  pub clear_free_keep : clear_free t x s y ≡ t y
  clear_free_keep = upd_other t _ _ y (outside_other x s y (x + s - 1) h (omega arith) (omega arith))

  pub lay_free_keep : lay_free t x s y ≡ t y
  lay_free_keep = upd_other _ x _ y (outside_other x s y x h (omega arith) (omega arith)) ∙ upd_other t _ _ y (outside_other x s y (x + s - 1) h (omega arith) (omega arith))

  pub lay_first_keep : (d : ℕ) → lay_first t x s d y ≡ t y
  lay_first_keep d = upd_other t x _ y (outside_other x s y x h (omega arith) (omega arith))

  module _ (d : ℕ) (i : Inside s d) where
    pub clear_pad_keep : clear_pad t x d y ≡ t y
    clear_pad_keep = le_case (λ (u : ℕ → ℕ). u y ≡ t y) 2 (d / 2) _ _ (λ e. upd_other t _ _ y (outside_other x s y (x + d / 2 - 1) h (omega arith) (omega (arith, i.within)))) (λ _. refl)

    pub lay_pad_keep : lay_pad t x d y ≡ t y
    lay_pad_keep = le_case (λ (u : ℕ → ℕ). u y ≡ t y) 2 (d / 2) _ _ (λ e. upd_other t _ _ y (outside_other x s y (x + d / 2 - 1) h (omega arith) (omega (arith, i.within)))) (λ _. refl)

-- ---- a block goes

module _ (t : ℕ → ℕ) (x s : ℕ) where
  pub free_hollow : Laid t x (free s) → Hollow t x s
  free_hollow h i a b = h i (omega arith) ∙ eq_no i 0 _ _ (omega arith) ∙ eq_no (suc i) s _ _ (omega arith)

  pub hollow_bare : Hollow t x s → Bare (clear_free t x s) x s
  hollow_bare h i a b = ⊎_elim
      (λ (e : x + i ≡ x + s - 1). upd_same t _ _ (x + i) e)
      (λ (n : x + i ≡ x + s - 1 → ⊥). upd_other t _ _ (x + i) n ∙ h i a (omega (arith, n)))
      (same? (x + i) (x + s - 1))

  pub used_padded : (d : ℕ) → Laid t x (used s d) → Padded t x s d
  used_padded d h i a b = h i b ∙ eq_no i 0 _ _ (omega arith)

  pub used_bare : (d : ℕ) → Laid t x (used s d) → Bare (clear_pad t x d) x s
  used_bare d h i a b = le_case (λ (u : ℕ → ℕ). u (x + i) ≡ 0) 2 (d / 2) _ _
      (λ e. ⊎_elim
      (λ (q : x + i ≡ x + d / 2 - 1). upd_same t _ _ (x + i) q)
      (λ (n : x + i ≡ x + d / 2 - 1 → ⊥). upd_other t _ _ (x + i) n ∙ used_padded d h i a b ∙ eq_no (suc i) (d / 2) _ _ (λ q. n (omega arith)))
      (same? (x + i) (x + d / 2 - 1)))
      (λ e. used_padded d h i a b ∙ eq_no (suc i) (d / 2) _ _ (omega arith))

  -- ---- a block comes

  pub bare_padded : (d : ℕ) → Bare t x s → Padded (lay_pad t x d) x s d
  bare_padded d h i a b = le_case (λ (u : ℕ → ℕ). u (x + i) ≡ if_eq (suc i) (d / 2) (pad_tag (d / 2)) 0) 2 (d / 2) _ _
      (λ e. eq_case (λ (v : ℕ). upd t (x + d / 2 - 1) (pad_tag (d / 2)) (x + i) ≡ v) (suc i) (d / 2) _ _
      (λ q. upd_same t _ _ (x + i) (omega arith))
      (λ n. upd_other t _ _ (x + i) (λ q. n (omega arith)) ∙ h i a b))
      (λ e. h i a b ∙ sym (eq_no (suc i) (d / 2) _ _ (omega arith)))

  pub padded_laid : (d : ℕ) → Padded t x s d → Laid (lay_first t x s d) x (used s d)
  padded_laid d h i b = eq_case (λ (v : ℕ). lay_first t x s d (x + i) ≡ v) i 0 _ _
      (λ e. upd_same t x _ (x + i) (omega arith))
      (λ n. upd_other t x _ (x + i) (omega (arith, n)) ∙ h i (omega (arith, n)) b)

  pub hollow_laid : Hollow t x s → Laid (lay_free t x s) x (free s)
  hollow_laid h i b = eq_case (λ (v : ℕ). lay_free t x s (x + i) ≡ v) i 0 _ _
      (λ e. upd_same _ x _ (x + i) (omega arith))
      (λ n. upd_other _ x _ (x + i) (omega (arith, n)) ∙ eq_case (λ (v : ℕ). upd t (x + s - 1) (end_tag s) (x + i) ≡ v) (suc i) s _ _
      (λ e. upd_same t _ _ (x + i) (omega arith))
      (λ q. upd_other t _ _ (x + i) (λ e. q (omega arith)) ∙ h i (omega (arith, n)) (omega (arith, q))))

-- ---- parts of such grains

pub bare_hollow : (t : ℕ → ℕ) (x k : ℕ) → Bare t x k → Hollow t x k
bare_hollow t x k h i a b = h i a (omega arith)

-- those after the first m
pub bare_rest : (t : ℕ → ℕ) (x k m : ℕ) → 1 ≤ m → Bare t x k → Bare t (x + m) (k - m)
bare_rest t x k m p h i a b = let e : x + m + i ≡ x + (m + i) = omega arith in ap t e ∙ h (m + i) (omega arith) (omega arith)

pub bare_keep : (t u : ℕ → ℕ) (x k : ℕ) → ((y : ℕ) → x ≤ y → y < x + k → u y ≡ t y) → Bare t x k → Bare u x k
bare_keep t u x k f h i a b = f (x + i) (omega arith) (omega arith) ∙ h i a b

-- a free block of b grains after k blank ones
pub hollow_after : (t : ℕ → ℕ) (x k b : ℕ) → 1 ≤ k → Bare t x k → Laid t (x + k) (free b) → Hollow (upd t (x + k) 0) x (k + b)
hollow_after t x k b p h g i a c = ⊎_elim
    (λ (e : x + i ≡ x + k). upd_same t _ _ (x + i) e)
    (λ (n : x + i ≡ x + k → ⊥). upd_other t _ _ (x + i) n ∙ ⊎_elim
    (λ (q : suc i ≤ k). h i a (omega arith))
    (λ (q : k < suc i). let e : x + i ≡ x + k + (i - k) = omega arith in ap t e ∙ free_hollow t (x + k) b g (i - k) (omega (arith, n)) (omega arith))
    (le? (suc i) k))
    (same? (x + i) (x + k))

-- a free block of a grains before k hollow ones
pub hollow_before : (t : ℕ → ℕ) (z a k : ℕ) → 1 ≤ a → Laid t z (free a) → Hollow t (z + a) k → Hollow (upd (upd t (z + a) 0) (z + a - 1) 0) z (a + k)
hollow_before t z a k p g h i b c = ⊎_elim
    (λ (e : z + i ≡ z + a - 1). upd_same _ _ _ (z + i) e)
    (λ (n : z + i ≡ z + a - 1 → ⊥). upd_other _ _ _ (z + i) n ∙ ⊎_elim
    (λ (e : z + i ≡ z + a). upd_same t _ _ (z + i) e)
    (λ (w : z + i ≡ z + a → ⊥). upd_other t _ _ (z + i) w ∙ ⊎_elim
    (λ (q : suc i ≤ a). free_hollow t z a g i b (omega (arith, n)))
    (λ (q : a < suc i). let e : z + i ≡ z + a + (i - a) = omega arith in ap t e ∙ h (i - a) (omega (arith, w)) (omega arith))
    (le? (suc i) a))
    (same? (z + i) (z + a)))
    (same? (z + i) (z + a - 1))
