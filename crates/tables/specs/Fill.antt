-- A table with one number in some entries in a row (`filled`), and its laws: what stands in them, and below them.
use Prim.Native.Nat.{ℕ, zero, suc, ◌+◌, ◌≤◌, ◌<◌}
use Rattle.std.proofs.Math.Numerals.{add-one}
use Rattle.std.proofs.Common.{arith, sym, ◌∙◌}
use Rattle.std.specs.Prelude.{◌≡◌, List, length}
use Rattle.std.proofs.Math.Path.{refl, ap}
use Rattle.std.proofs.Math.Logic.{⊎_elim}
use Rattle.choice.specs.Choice.{same?}
use Rattle.table.specs.Table.{enter, entry, enter_length, entry_enter, entry_other}

-- v as each of the n entries from i on
unfoldable pub filled : List ℕ → ℕ → ℕ → ℕ → List ℕ
filled t i zero v = t
filled t i (suc n) v = enter (filled t i n v) (i + n) v

module _ (t : List ℕ) (i : ℕ) where
  -- none: the table itself
  pub filled_none : (v : ℕ) → t ≡ filled t i 0 v
  unfolding filled
  filled_none v = refl

  -- one more
  pub filled_more : (n v : ℕ) → enter (filled t i n v) (i + n) v ≡ filled t i (n + 1) v
  unfolding filled
  filled_more n v = rw add-one

  -- the length stays
  pub filled_length : (n v : ℕ) → length (filled t i n v) ≡ length t
  unfolding filled
  filled_length zero v = refl
  filled_length (suc n) v = enter_length (filled t i n v) (i + n) v ∙ filled_length n v

  -- the number stands in each of the entries
  pub filled_in : (n v j : ℕ) → i + n ≤ length t → i ≤ j → j < i + n → entry (filled t i n v) j ≡ v
  unfolding filled
  filled_in zero v j h a b = absurd (omega arith)
  filled_in (suc n) v j h a b = ⊎_elim
      (λ (e : i + n ≡ j). ap (entry (enter (filled t i n v) (i + n) v)) (sym e)
      ∙ entry_enter (filled t i n v) (i + n) v (omega (arith, filled_length n v)))
      (λ (e : i + n ≡ j → ⊥). entry_other (filled t i n v) (i + n) v j e ∙ filled_in n v j (omega arith) a (omega (arith, e)))
      (same? (i + n) j)

  -- those below stay
  pub filled_below : (n v j : ℕ) → j < i → entry (filled t i n v) j ≡ entry t j
  unfolding filled
  filled_below zero v j h = refl
  filled_below (suc n) v j h = entry_other (filled t i n v) (i + n) v j (λ e. omega arith) ∙ filled_below n v j h
