-- Tests on numbers as functions (`if_eq`, `if_le`), and the function that differs from another at one place (`upd`).
-- All three are shut: a proof goes by their laws, so that a goal shows the choice and not how it is made.
use Rattle.std.specs.Prelude.{ℕ, ◌≤◌, ◌<◌, ◌≡◌, ◌⊎◌}
use Rattle.std.proofs.Common.{sym, subst, inl, inr, ⊎_elim, arith}
use Rattle.std.proofs.Math.Logic.{ite, if_pos, if_neg}
use Rattle.std.proofs.Math.Decide.{ℕ_discrete, dec_le}

module _ {ℓ} {A : Type ℓ} where
  -- x where a is b, else y
  unfoldable pub if_eq : ℕ → ℕ → A → A → A
  unfolding ℕ_discrete
  if_eq a b x y = ite (ℕ_discrete a b) x y

  -- x where a is at most b, else y
  unfoldable pub if_le : ℕ → ℕ → A → A → A
  unfolding dec_le
  if_le a b x y = ite (dec_le a b) x y

  -- f, but v at x
  unfoldable pub upd : (ℕ → A) → ℕ → A → ℕ → A
  unfolding if_eq
  upd f x v y = if_eq y x v (f y)

  pub eq_yes : (a b : ℕ) (x y : A) → a ≡ b → if_eq a b x y ≡ x
  unfolding if_eq
  eq_yes a b x y h = if_pos (ℕ_discrete a b) h x y

  pub eq_no : (a b : ℕ) (x y : A) → (a ≡ b → ⊥) → if_eq a b x y ≡ y
  unfolding if_eq
  eq_no a b x y h = if_neg (ℕ_discrete a b) h x y

  pub le_yes : (a b : ℕ) (x y : A) → a ≤ b → if_le a b x y ≡ x
  unfolding if_le
  le_yes a b x y h = if_pos (dec_le a b) h x y

  pub le_no : (a b : ℕ) (x y : A) → (a ≤ b → ⊥) → if_le a b x y ≡ y
  unfolding if_le
  le_no a b x y h = if_neg (dec_le a b) h x y

  pub upd_same : (f : ℕ → A) (x : ℕ) (v : A) (y : ℕ) → y ≡ x → upd f x v y ≡ v
  unfolding upd
  upd_same f x v y h = eq_yes y x v (f y) h

  pub upd_other : (f : ℕ → A) (x : ℕ) (v : A) (y : ℕ) → (y ≡ x → ⊥) → upd f x v y ≡ f y
  unfolding upd
  upd_other f x v y h = eq_no y x v (f y) h

-- ---- which of the two it is

pub same? : (a b : ℕ) → (a ≡ b) ⊎ (a ≡ b → ⊥)
same? a b = elim (ℕ_discrete a b) [ yes e ↦ inl e | no n ↦ inr n ]

pub le? : (a b : ℕ) → (a ≤ b) ⊎ (b < a)
le? a b = elim (dec_le a b) [ yes e ↦ inl e | no n ↦ inr (omega (arith, n)) ]

-- ---- what holds in both cases holds of the choice

pub eq_case {ℓ} : {A : Type ℓ} (P : A → Type 0) (a b : ℕ) (x y : A) → (a ≡ b → P x) → ((a ≡ b → ⊥) → P y) → P (if_eq a b x y)
eq_case P a b x y f g = ⊎_elim
    (λ e. subst P (sym (eq_yes a b x y e)) (f e))
    (λ n. subst P (sym (eq_no a b x y n)) (g n))
    (same? a b)

pub le_case {ℓ} : {A : Type ℓ} (P : A → Type 0) (a b : ℕ) (x y : A) → (a ≤ b → P x) → (b < a → P y) → P (if_le a b x y)
le_case P a b x y f g = ⊎_elim
    (λ e. subst P (sym (le_yes a b x y e)) (f e))
    (λ n. subst P (sym (le_no a b x y (omega (arith, n)))) (g n))
    (le? a b)

-- what holds of the new value at k, and of the old ones elsewhere, holds of all
pub upd_each {ℓ} : {A : Type ℓ} (P : ℕ → A → Type 0) (f : ℕ → A) (k : ℕ) (v : A) → P k v → ((j : ℕ) → (j ≡ k → ⊥) → P j (f j)) → (j : ℕ) → P j (upd f k v j)
upd_each P f k v a b j = ⊎_elim
    (λ e. subst (λ x. P j x) (sym (upd_same f k v j e)) (subst (λ i. P i v) (sym e) a))
    (λ n. subst (λ x. P j x) (sym (upd_other f k v j n)) (b j n))
    (same? j k)

-- two functions changed at the same place
pub upd_pair {ℓ κ} : {A : Type ℓ} {B : Type κ} (P : A → B → Type 0) (f : ℕ → A) (g : ℕ → B) (k : ℕ) (v : A) (w : B)
    → P v w → ((j : ℕ) → (j ≡ k → ⊥) → P (f j) (g j)) → (j : ℕ) → P (upd f k v j) (upd g k w j)
upd_pair P f g k v w a b j = ⊎_elim
    (λ e. subst (λ x. P x (upd g k w j)) (sym (upd_same f k v j e)) (subst (λ x. P v x) (sym (upd_same g k w j e)) a))
    (λ n. subst (λ x. P x (upd g k w j)) (sym (upd_other f k v j n)) (subst (λ x. P (f j) x) (sym (upd_other g k w j n)) (b j n)))
    (same? j k)
