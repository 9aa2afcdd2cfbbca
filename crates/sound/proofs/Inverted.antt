-- What follows from specs/Inverted.antt.
use Rattle.std.specs.Prelude.{ℕ, suc, ◌/◌, ◌%◌, ◌≤◌, ◌<◌, ◌≡◌, ◌⊎◌}
use Rattle.std.proofs.Common.{arith, ap, sym, ◌∙◌, inl, inr}
use Rattle.choice.specs.Choice.{if_eq, if_le, eq_case, le_case}
use Rattle.bits.specs.First.{first_set}
use Rattle.script.specs.Memory.{Memory, Mark, last_word}
use Rattle.script.specs.Script.{Script, first, stop, ok, no, run, Gives}
use Rattle.script.proofs.Script.{runs_stop, inv_get, inv_done, inv_eq, inv_le}
use Rattle.sound.specs.Checks.{Word, is_free, is_used, is_last, is_bad, word_of, must_grain, must_lead, as_busy, as_free, as_used}
use Rattle.sound.specs.Inverted.{Some, Busy}

-- ---- choices

module _ {A : Type 0} (m : Memory) where
  -- a refusal gives nothing
  pub inv_stop : (r : ℕ) {a : A} → Gives m (stop r) a → ⊥
  inv_stop r {a} h = let g : no r ≡ ok a = sym (runs_stop m r) ∙ h in let z : ◌≡◌ {A = ℕ} 0 1 = cc in omega arith

  -- the way that was taken, where two numbers are compared
  pub inv_if_eq : (x y : ℕ) (s t : Script A) {a : A} → Gives m (if_eq x y s t) a → ((x ≡ y) × Gives m s a) ⊎ ((x ≡ y → ⊥) × Gives m t a)
  inv_if_eq x y s t {a} = eq_case (λ (u : Script A). Gives m u a → ((x ≡ y) × Gives m s a) ⊎ ((x ≡ y → ⊥) × Gives m t a)) x y s t (λ e h. inl (e, h)) (λ e h. inr (e, h))

  pub inv_if_le : (x y : ℕ) (s t : Script A) {a : A} → Gives m (if_le x y s t) a → ((x ≤ y) × Gives m s a) ⊎ ((y < x) × Gives m t a)
  inv_if_le x y s t {a} = le_case (λ (u : Script A). Gives m u a → ((x ≤ y) × Gives m s a) ⊎ ((y < x) × Gives m t a)) x y s t (λ e h. inl (e, h)) (λ e h. inr (e, h))

  -- a search of the map
  pub inv_first : (n x : ℕ) (k : ℕ → Script A) {a : A} → Gives m (first n x k) a → Gives m (k (first_set (m Mark) n x)) a
  unfolding run
  inv_first n x k h = h

-- ---- words and links

-- as every word says that is one
pub word_some : (v : ℕ) → Some (word_of v)
unfolding word_of
word_some v =
    eq_case Some v last_word _ _ (λ _. tt) λ _.
    eq_case Some (v / 4) 0 _ _ (λ _. tt) λ n.
    eq_case Some (v % 4) 0 _ _ (λ _. omega (arith, n)) λ _. eq_case Some (v % 4) 1 _ _ (λ _. omega (arith, n)) (λ _. tt)

module _ (m : Memory) where
  -- a block that is not free
  pub busy_checked : (w : Word) {u : Unit {0}} → Gives m (as_busy w) u → Busy w
  busy_checked (is_free s) h = inv_stop m 5 h
  busy_checked (is_used s) h = tt
  busy_checked is_last h = tt
  busy_checked is_bad h = inv_stop m 5 h

  -- a free block, with its size
  pub free_checked : (w : Word) {s : ℕ} → Gives m (as_free w) s → w ≡ is_free s
  free_checked (is_free t) {s} h = ap is_free (inv_done m t s h)
  free_checked (is_used t) h = absurd (inv_stop m 5 h)
  free_checked is_last h = absurd (inv_stop m 5 h)
  free_checked is_bad h = absurd (inv_stop m 5 h)

  -- a used block, with its size
  pub used_checked : (w : Word) {s : ℕ} → Gives m (as_used w) s → w ≡ is_used s
  used_checked (is_free t) h = absurd (inv_stop m 5 h)
  used_checked (is_used t) {s} h = ap is_used (inv_done m t s h)
  used_checked is_last h = absurd (inv_stop m 5 h)
  used_checked is_bad h = absurd (inv_stop m 5 h)

  -- a link leads where it must
  pub lead_checked : (f x y : ℕ) {u : Unit {0}} → Gives m (must_lead f x y) u → m f x ≡ y
  lead_checked f x y h = inv_eq m 5 (m f x) y (inv_get m f x _ h)

  -- a grain is one of the arena
  pub grain_checked : (n x : ℕ) {u : Unit {0}} → Gives m (must_grain n x) u → x < n
  grain_checked n x h = omega (arith, inv_le m 5 (suc x) n h)
