-- The head h of a list, seen with no jump on whether the list is marked: b says so, and the grain y stands in for the head of
-- a list that is not. Each law is one return of the code.
use Rattle.std.specs.Prelude.{ℕ, ◌≤◌, ◌<◌, ◌≡◌, Bool, true, false, List}
use Rattle.std.proofs.Common.{arith, ap, sym, ◌∙◌, subst}
use Rattle.choice.specs.Choice.{eq_yes, eq_no}
use Rattle.choice.specs.Says.{Says}
use Rattle.table.specs.Table.{entry}
use Rattle.bits.specs.Map.{map_bit}
use Rattle.bits.proofs.Map.{map_bit_lt}
use Rattle.chains.specs.Links.{next_of}
use Rattle.lent.specs.Slices.{grains, tag_of, prev_at, head_at}
use Rattle.entries.specs.Answers.{chosen}
use Rattle.entries.specs.Agrees.{FreeStart, Heads}
use Rattle.entries.specs.Stepped.{Enters}

module _ (a t : List ℕ) (y h f : ℕ) (i : y < grains a) where
  -- what stands in is no grain
  pub heads_outside : (b : Bool) → f ≡ chosen b h y → grains a ≤ f → Heads a t b h → ⊥
  heads_outside true e q p = omega (arith, p.0.0)
  heads_outside false e q p = omega arith

  -- its tag v, and what is previous of it, o, and of y, q; as far as they count, these are z and u; and w is what z must be
  module _ (v n o q z u w : ℕ) (tag_is : v ≡ entry t f) (outside : n ≡ grains a) (back_is : o ≡ prev_at a f) (own_is : q ≡ prev_at a y) where
    same_back : (s : Bool) → f ≡ y → z ≡ chosen s o n → u ≡ chosen s q n → z ≡ u
    same_back s e d k = d ∙ ap (λ (j : ℕ). chosen s j n) (back_is ∙ ap (prev_at a) e ∙ sym own_is) ∙ sym k

    pub heads_refused : (b s : Bool) → Says (FreeStart (tag_of v)) s → f ≡ chosen b h y → z ≡ chosen s o n → u ≡ chosen s q n → w ≡ chosen b f u
        → (z ≡ w → ⊥) → Heads a t b h → ⊥
    heads_refused true true x e d k c r p = r (d ∙ back_is ∙ ap (prev_at a) e ∙ p.1 ∙ sym e ∙ sym c)
    heads_refused true false x e d k c r p = x (subst (λ (j : ℕ). FreeStart (tag_of j)) (ap (entry t) (sym e) ∙ sym tag_is) p.0.1)
    heads_refused false s x e d k c r p = r (same_back s e d k ∙ sym c)

    pub heads_there : f < n → (b s : Bool) → Says (FreeStart (tag_of v)) s → f ≡ chosen b h y → z ≡ chosen s o n → u ≡ chosen s q n → w ≡ chosen b f u
        → z ≡ w → Heads a t b h
    heads_there g true true x e d k c r = (
      (omega arith, subst (λ (j : ℕ). FreeStart (tag_of j)) (tag_is ∙ ap (entry t) e) x),
      ap (prev_at a) (sym e) ∙ sym back_is ∙ sym d ∙ r ∙ c ∙ e,
    )
    heads_there g true false x e d k c r = absurd (omega arith)
    heads_there g false s x e d k c r = tt

-- what becomes the next of y when it enters list k
module _ (l : List ℕ) (k y h f : ℕ) (head_is : h ≡ head_at l k) where
  pub first_is : (b : Bool) → Says (map_bit l k ≡ 1) b → f ≡ chosen b h y → f ≡ next_of y (map_bit l k) (head_at l k)
  first_is true s e = e ∙ head_is ∙ sym (eq_no (map_bit l k) 0 _ _ (λ z. omega arith))
  first_is false s e = e ∙ sym (eq_yes (map_bit l k) 0 _ _ (omega (arith, s, map_bit_lt l k)))

  -- is a grain
  pub first_inside : (a : List ℕ) → y < grains a → Enters a l k → (b : Bool) → Says (map_bit l k ≡ 1) b → f ≡ chosen b h y → f < grains a
  first_inside a i n true s e = omega (arith, n s)
  first_inside a i n false s e = omega arith
