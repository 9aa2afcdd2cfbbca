-- What follows from specs/First.antt.
use Prim.Native.Nat.{ℕ, zero, suc, ◌+◌, ◌-◌, ◌≤◌, ◌<◌}
use native.Mathlib.Omega.{arith}
use Rattle.std.specs.Prelude.{◌≡◌}
use Rattle.std.proofs.Common.{ap, sym, ◌∙◌}
use Rattle.std.proofs.Math.Logic.{⊎_elim}
use Rattle.choice.specs.Choice.{eq_yes, eq_no, same?, le?, eq_case}
use Rattle.bits.specs.First.{first_set}

module _ (f : ℕ → ℕ) where
  -- it is not before k
  pub first_from : (n k : ℕ) → k ≤ first_set f n k
  unfolding first_set
  first_from zero k = omega arith
  first_from (suc n) k =
      eq_case (λ (r : ℕ). k ≤ r) (f k) 1 k (first_set f n (suc k))
      (λ e. omega arith)
      (λ e. omega (arith, first_from n (suc k)))

  -- it is at most k + n
  pub first_most : (n k : ℕ) → first_set f n k ≤ k + n
  unfolding first_set
  first_most zero k = omega arith
  first_most (suc n) k =
      eq_case (λ (r : ℕ). r ≤ k + suc n) (f k) 1 k (first_set f n (suc k))
      (λ e. omega arith)
      (λ e. omega (arith, first_most n (suc k)))

  -- where it is less, f is 1 there
  pub first_is_set : (n k : ℕ) → first_set f n k < k + n → f (first_set f n k) ≡ 1
  unfolding first_set
  first_is_set zero k = λ h. absurd (omega arith)
  first_is_set (suc n) k =
      eq_case (λ (r : ℕ). r < k + suc n → f r ≡ 1) (f k) 1 k (first_set f n (suc k))
      (λ e h. e)
      (λ e h. first_is_set n (suc k) (omega arith))

  -- f is 1 at no place before it
  pub first_none : (n k j : ℕ) → k ≤ j → j < first_set f n k → f j ≡ 1 → ⊥
  unfolding first_set
  first_none zero k j h = λ l e. omega arith
  first_none (suc n) k j h =
      eq_case (λ (r : ℕ). j < r → f j ≡ 1 → ⊥) (f k) 1 k (first_set f n (suc k))
      (λ e l. omega arith)
      (λ ne. next ne (λ p. first_none n (suc k) j (omega arith)))
    where
      next : (f k ≡ 1 → ⊥) → (k < j → j < first_set f n (suc k) → f j ≡ 1 → ⊥) → j < first_set f n (suc k) → f j ≡ 1 → ⊥
      next ne later l e = ⊎_elim
          (λ (p : j ≤ k). let q : j ≡ k = omega arith in ne (sym (ap f q) ∙ e))
          (λ (p : k < j). later p l e)
          (le? j k)

  -- f is 1 at k: the search ends there
  pub first_here : (n k : ℕ) → f k ≡ 1 → first_set f (suc n) k ≡ k
  unfolding first_set
  first_here n k e = eq_yes (f k) 1 k (first_set f n (suc k)) e

  -- it is not: the search goes on
  pub first_next : (n k : ℕ) → (f k ≡ 1 → ⊥) → first_set f (suc n) k ≡ first_set f n (suc k)
  unfolding first_set
  first_next n k ne = eq_no (f k) 1 k (first_set f n (suc k)) ne

  -- no other number has these four properties
  pub first_is :
      (n k j : ℕ) → k ≤ j → j ≤ k + n → ((i : ℕ) → k ≤ i → i < j → f i ≡ 1 → ⊥) → (j < k + n → f j ≡ 1) → first_set f n k ≡ j
  unfolding first_set
  first_is zero k j a b none one = omega arith
  first_is (suc n) k j a b none one = ⊎_elim
      here
      (λ (ne : f k ≡ 1 → ⊥).
      let p = past ne in
      first_next n k ne ∙ first_is n (suc k) j p (omega arith) (λ i l. none i (omega arith)) (λ l. one (omega arith)))
      (same? (f k) 1)
    where
      here : f k ≡ 1 → first_set f (suc n) k ≡ j
      here e = first_here n k e ∙ ⊎_elim (λ (p : j ≤ k). omega arith) (λ (p : k < j). absurd (none k (omega arith) p e)) (le? j k)

      past : (f k ≡ 1 → ⊥) → k < j
      past ne = ⊎_elim
          (λ (p : j ≤ k). let q : j ≡ k = omega arith in absurd (ne (sym (ap f q) ∙ one (omega arith))))
          (λ (p : k < j). p)
          (le? j k)

  -- what is found in the first n places is found in more
  pub first_found : (n m k : ℕ) → first_set f n k < k + n → first_set f (n + m) k ≡ first_set f n k
  first_found n m k h =
      first_is (n + m) k (first_set f n k) (first_from n k) (omega arith) (first_none n k) (λ l. first_is_set n k h)

  -- where the first n have none, the search goes on behind them
  pub first_on : (n m k : ℕ) → first_set f n k ≡ k + n → first_set f (n + m) k ≡ first_set f m (k + n)
  first_on n m k e =
      first_is (n + m) k (first_set f m (k + n)) (omega (arith, first_from m (k + n))) (omega (arith, first_most m (k + n)))
      (λ i a b. ⊎_elim
      (λ (p : k + n ≤ i). first_none m (k + n) i p b)
      (λ (p : i < k + n). first_none n k i a (omega arith))
      (le? (k + n) i))
      (λ l. first_is_set m (k + n) (omega arith))

-- a function that is g, c places further on, is 1 first where g is, c places further on
pub first_shift :
    (f g : ℕ → ℕ) (c n k : ℕ) → ((j : ℕ) → k ≤ j → j < k + n → f (c + j) ≡ g j) → first_set f n (c + k) ≡ c + first_set g n k
first_shift f g c n k same =
    let r = first_set g n k in
    let a = first_from g n k in
    let b = first_most g n k in
    first_is f n (c + k) (c + r) (omega arith) (omega arith)
    (λ i l l' e.
    let q : c + (i - c) ≡ i = omega arith in
    first_none g n k (i - c) (omega arith) (omega arith) (sym (same (i - c) (omega arith) (omega arith)) ∙ ap f q ∙ e))
    (λ l. same r a (omega arith) ∙ first_is_set g n k (omega arith))

-- two functions that agree on the places looked at are 1 first at the same place
pub first_agree : (f g : ℕ → ℕ) (n k : ℕ) → ((j : ℕ) → k ≤ j → j < k + n → f j ≡ g j) → first_set f n k ≡ first_set g n k
first_agree f g n k same =
    let r = first_set g n k in
    let a = first_from g n k in
    let b = first_most g n k in
    first_is f n k r a b
    (λ i l l' e. first_none g n k i l l' (sym (same i l (omega arith)) ∙ e))
    (λ l. same r a l ∙ first_is_set g n k l)
