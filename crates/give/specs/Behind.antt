-- What the pieces of full length leave behind them in the lists: the last of them has nothing before it, what another was put
-- before has that one before it, and the other lists and all other previous links are as they were. h is the old head.
use Prim.Native.Nat.{ℕ, zero, suc, ◌+◌, ◌*◌, ◌≤◌, ◌<◌}
use Rattle.std.proofs.Common.{arith, ◌∙◌, inl, inr}
use Rattle.std.specs.Prelude.{◌≡◌, List, ◌⊎◌}
use Rattle.std.proofs.Math.Path.{refl, ap, sym}
use Rattle.std.proofs.Math.Logic.{⊎_elim}
use Rattle.choice.specs.Choice.{eq_case, same?, upd, upd_same, upd_other}
use Rattle.class.specs.Class.{list_of}
use Rattle.script.specs.Memory.{Memory, Next, Prev, Mark, none, root, Write, apply}
use Rattle.script.proofs.Memory.{apply_append}
use Rattle.sound.specs.Links.{push_writes}
use Rattle.sound.specs.RegionPlan.{piece_writes}
use Rattle.region.specs.Pieces.{head_of, full_writes}

-- ---- x put before h in list k

module _ (m : Memory) (k x h : ℕ) where
  push_first : apply m (push_writes k x h) Prev x ≡ none
  push_first = eq_case (λ (w : List Write). apply m w Prev x ≡ none) h none _ _
      (λ _. upd_same (m Prev) x none x refl)
      (λ _. upd_same (upd (m Prev) h x) x none x refl)

  push_second : (h ≡ none → ⊥) → (h ≡ x → ⊥) → apply m (push_writes k x h) Prev h ≡ x
  push_second n d = eq_case (λ (w : List Write). apply m w Prev h ≡ x) h none _ _
      (λ e. absurd (n e))
      (λ _. upd_other (upd (m Prev) h x) x none h d ∙ upd_same (m Prev) h x h refl)

  push_other : (y : ℕ) → (y ≡ x → ⊥) → (y ≡ h → h ≡ none) → apply m (push_writes k x h) Prev y ≡ m Prev y
  push_other y d n = eq_case (λ (w : List Write). apply m w Prev y ≡ m Prev y) h none _ _
      (λ _. upd_other (m Prev) x none y d)
      (λ q. upd_other (upd (m Prev) h x) x none y d ∙ upd_other (m Prev) h x y (λ e. q (n e)))

  -- another list
  push_next : (j : ℕ) → (j ≡ k → ⊥) → x ≤ none → apply m (push_writes k x h) Next (root j) ≡ m Next (root j)
  push_next j d s = eq_case (λ (w : List Write). apply m w Next (root j) ≡ m Next (root j)) h none _ _ (λ _. go) (λ _. go)
    where
      go : upd (upd (m Next) x h) (root k) x (root j) ≡ m Next (root j)
      go = upd_other (upd (m Next) x h) (root k) x (root j) (λ e. d (omega arith)) ∙ upd_other (m Next) x h (root j) (λ e. omega arith)

  push_mark : (j : ℕ) → (j ≡ k → ⊥) → apply m (push_writes k x h) Mark j ≡ m Mark j
  push_mark j d = eq_case (λ (w : List Write). apply m w Mark j ≡ m Mark j) h none _ _ (λ _. upd_other (m Mark) k 1 j d) (λ _. refl)

-- ---- i pieces from g on

module _ (m : Memory) (g h : ℕ) where
  -- one more
  step : (i f y : ℕ) → apply m (full_writes g h (suc i)) f y ≡ apply (apply m (full_writes g h i)) (piece_writes (g + 4096 * i) 4096 (head_of g h i)) f y
  unfolding full_writes
  step i f y = ap (λ (q : Memory). q f y) (apply_append m (full_writes g h i) (piece_writes (g + 4096 * i) 4096 (head_of g h i)))

  -- the last one has nothing before it
  pub row_first : (i : ℕ) → apply m (full_writes g h (suc i)) Prev (g + 4096 * i) ≡ none
  row_first i = step i Prev (g + 4096 * i) ∙ push_first _ (list_of 4095) (g + 4096 * i) (head_of g h i)

  -- y is the old head, or one of the pieces
  abbrev pub Behind : ℕ → ℕ → Type 0
  Behind i y = (y ≡ h) ⊎ ((j : ℕ) × (j < i) × (y ≡ g + 4096 * j))

  -- then another is before it, unless it is the head now
  pub row_second : (y : ℕ) → (y ≡ none → ⊥) → (i : ℕ) → g + 4096 * i ≤ none → Behind i y → (y ≡ head_of g h i → ⊥) → apply m (full_writes g h i) Prev y ≡ none → ⊥
  unfolding head_of
  row_second y some zero s (inl e) d q = d e
  row_second y some zero s (inr e) d q = omega (arith, e.1)
  row_second y some (suc i) s b d q = ⊎_elim
      (λ (e : y ≡ head_of g h i).
      let u : y ≡ none → ⊥ = some in
      omega (arith, sym (second e) ∙ sym (step i Prev y) ∙ q))
      (λ (n : y ≡ head_of g h i → ⊥). row_second y some i (omega arith) (before b) n (sym (push_other _ (list_of 4095) (g + 4096 * i) (head_of g h i) y d (λ e. absurd (n e))) ∙ sym (step i Prev y) ∙ q))
      (same? y (head_of g h i))
    where
      second : y ≡ head_of g h i → apply (apply m (full_writes g h i)) (piece_writes (g + 4096 * i) 4096 (head_of g h i)) Prev y ≡ g + 4096 * i
      second e =
          ap (apply (apply m (full_writes g h i)) (piece_writes (g + 4096 * i) 4096 (head_of g h i)) Prev) e
          ∙ push_second _ (list_of 4095) (g + 4096 * i) (head_of g h i) (λ z. some (e ∙ z)) (λ z. d (e ∙ z))

      before : Behind (suc i) y → Behind i y
      before (inl e) = inl e
      before (inr e) = ⊎_elim (λ (z : e.0 ≡ i). absurd (d (e.2 ∙ ap (λ (j : ℕ). g + 4096 * j) z))) (λ (z : e.0 ≡ i → ⊥). inr (e.0, omega (arith, e.1, z), e.2)) (same? e.0 i)

  -- any other previous link is as it was
  pub row_other : (y : ℕ) → (y ≡ h → h ≡ none) → (i : ℕ) → ((j : ℕ) → j < i → y ≡ g + 4096 * j → ⊥) → apply m (full_writes g h i) Prev y ≡ m Prev y
  unfolding head_of full_writes
  row_other y old zero new = refl
  row_other y old (suc i) new =
      step i Prev y ∙ push_other _ (list_of 4095) (g + 4096 * i) (head_of g h i) y (new i (omega arith)) (head i (λ j p. new j (omega arith)))
      ∙ row_other y old i (λ j p. new j (omega arith))
    where
      head : (i : ℕ) → ((j : ℕ) → j < i → y ≡ g + 4096 * j → ⊥) → y ≡ head_of g h i → head_of g h i ≡ none
      head zero new e = old e
      head (suc i) new e = absurd (new i (omega arith) e)

  -- and so is every other list
  module _ (k : ℕ) (other : k ≡ list_of 4095 → ⊥) where
    pub row_next : (i : ℕ) → g + 4096 * i ≤ none → apply m (full_writes g h i) Next (root k) ≡ m Next (root k)
    unfolding full_writes
    row_next zero s = refl
    row_next (suc i) s = step i Next (root k) ∙ push_next _ (list_of 4095) (g + 4096 * i) (head_of g h i) k other (omega arith) ∙ row_next i (omega arith)

    pub row_mark : (i : ℕ) → apply m (full_writes g h i) Mark k ≡ m Mark k
    unfolding full_writes
    row_mark zero = refl
    row_mark (suc i) = step i Mark k ∙ push_mark _ (list_of 4095) (g + 4096 * i) (head_of g h i) k other ∙ row_mark i
