-- The steps of the calls do to the lists what the definition does: free neighbours leave theirs, and what is left or joined enters
-- its own.
use Rattle.std.specs.Prelude.{ℕ, ◌+◌, ◌-◌, ◌≤◌, ◌<◌, ◌≡◌, refl, List, [], ◌∷◌}
use Rattle.std.proofs.Common.{arith, ap, sym, ◌∙◌, subst, ⊎_elim}
use Rattle.choice.specs.Choice.{eq_yes, eq_no, eq_case, same?}
use Rattle.class.specs.Class.{list_of}
use Rattle.definition.specs.Blocks.{Block, free, used, last, gap, total, ◌⟨⟩◌, room, past}
use Rattle.definition.specs.Lists.{Lists, skip}
use Rattle.definition.specs.Calls.{Heap, leave as leave_rest}
use Rattle.invariants.specs.Order.{busy, Ordered, OrderedL, order_split, BlockAt, at_here}
use Rattle.invariants.specs.Members.{Mem}
use Rattle.invariants.specs.Moves.{Sane}
use Rattle.invariants.proofs.Moves.{used_unlisted}
use Rattle.invariants.proofs.Neighbours.{total_past, swallow_behind, swallow}
use Rattle.chains.specs.Steps.{steps_lists}
use Rattle.chains.proofs.Steps.{lists_append}
use Rattle.chains.specs.Legal.{NotIn, Legal}
use Rattle.chains.proofs.Legal.{legal_append}
use Rattle.plans.specs.Allocate.{rest_steps}
use Rattle.plans.specs.Deallocate.{leave_steps, beside_steps}

-- ---- a free neighbour that stands first in r, at y

abbrev Some : List Block → Type 0
Some r = (t : ℕ) (q : List Block) → r ≡ free t ∷ q → 1 ≤ t

-- it leaves its list
skip_lists : (f : Lists) (r : List Block) (y : ℕ) → Some r → steps_lists f (leave_steps (room r) y) ≡ skip r y f
skip_lists f [] y h = ap (steps_lists f) (eq_yes 0 0 [] _ refl)
skip_lists f (free t ∷ r) y h = ap (steps_lists f) (eq_no t 0 [] _ (omega (arith, h t r refl)))
skip_lists f (used t d ∷ r) y h = ap (steps_lists f) (eq_yes 0 0 [] _ refl)
skip_lists f (last ∷ r) y h = ap (steps_lists f) (eq_yes 0 0 [] _ refl)
skip_lists f (gap ∷ r) y h = ap (steps_lists f) (eq_yes 0 0 [] _ refl)

skip_legal : (f : Lists) (r : List Block) (y : ℕ) → ((t : ℕ) (q : List Block) → r ≡ free t ∷ q → Mem y (f (list_of t))) → Legal f (leave_steps (room r) y)
skip_legal f [] y h = eq_case (Legal f) 0 0 [] _ (λ _. tt) (λ n. absurd (n refl))
skip_legal f (free t ∷ r) y h = eq_case (Legal f) t 0 [] _ (λ _. tt) (λ _. (h t r refl, tt))
skip_legal f (used t d ∷ r) y h = eq_case (Legal f) 0 0 [] _ (λ _. tt) (λ n. absurd (n refl))
skip_legal f (last ∷ r) y h = eq_case (Legal f) 0 0 [] _ (λ _. tt) (λ n. absurd (n refl))
skip_legal f (gap ∷ r) y h = eq_case (Legal f) 0 0 [] _ (λ _. tt) (λ n. absurd (n refl))

some_after : (r : List Block) → Ordered busy r → Some r
some_after (free t ∷ r) o u q e = let z : t ≡ u = cc in omega (arith, o.1)
some_after [] o u q e = let z : ◌≡◌ {A = ℕ} 0 1 = cc in absurd (omega arith)
some_after (used t d ∷ r) o u q e = let z : ◌≡◌ {A = ℕ} 0 1 = cc in absurd (omega arith)
some_after (last ∷ r) o u q e = let z : ◌≡◌ {A = ℕ} 0 1 = cc in absurd (omega arith)
some_after (gap ∷ r) o u q e = let z : ◌≡◌ {A = ℕ} 0 1 = cc in absurd (omega arith)

some_before : (l : List Block) → OrderedL l → Some l
some_before (free t ∷ r) o u q e = let z : t ≡ u = cc in omega (arith, o.1)
some_before [] o u q e = let z : ◌≡◌ {A = ℕ} 0 1 = cc in absurd (omega arith)
some_before (used t d ∷ r) o u q e = let z : ◌≡◌ {A = ℕ} 0 1 = cc in absurd (omega arith)
some_before (last ∷ r) o u q e = let z : ◌≡◌ {A = ℕ} 0 1 = cc in absurd (omega arith)
some_before (gap ∷ r) o u q e = let z : ◌≡◌ {A = ℕ} 0 1 = cc in absurd (omega arith)

-- ---- what is left of t grains at x

pub rest_lists : (g : Lists) (l r : List Block) (t k d : ℕ) → steps_lists g (rest_steps (total l) t k) ≡ (leave_rest g l r t k d).lists
unfolding leave_rest
rest_lists g l r t k d = ⊎_elim
    (λ (e : k ≡ t). ap (steps_lists g) (eq_yes k t [] _ e) ∙ sym (ap (λ (h : Heap). h.lists) (eq_yes k t _ _ e)))
    (λ (e : k ≡ t → ⊥). ap (steps_lists g) (eq_no k t [] _ e) ∙ sym (ap (λ (h : Heap). h.lists) (eq_no k t _ _ e)))
    (same? k t)

pub rest_legal : (g : Lists) (x t k : ℕ) → ((k ≡ t → ⊥) → NotIn g (x + k)) → Legal g (rest_steps x t k)
rest_legal g x t k h = eq_case (Legal g) k t [] _ (λ _. tt) (λ n. (h n, tt))

-- ---- the neighbours of a used block

module _ (c : ℕ) (f : Lists) (l r : List Block) (s d : ℕ) (o : Sane c (l ⟨⟩ used s d ∷ r) f) where
  parts : OrderedL l × Ordered busy r
  parts = let i = order_split l (used s d ∷ r) o.order in (i.0, i.1.2)

  abbrev pub one : Lists
  one = skip r (total l + s) f

  abbrev pub both : Lists
  both = skip l (total (past l)) (skip r (total l + s) f)

  pub after_lists : steps_lists f (leave_steps (room r) (total l + s)) ≡ skip r (total l + s) f
  after_lists = skip_lists f r (total l + s) (some_after r parts.1)

  pub after_legal : Legal f (leave_steps (room r) (total l + s))
  after_legal = skip_legal f r (total l + s) (λ t q e. o.exact.listed (total l + s) t
      (subst (λ (a : List Block). BlockAt (total l + s) (free t) 0 (l ⟨⟩ used s d ∷ a)) (sym e) (at_here (used s d ∷ l) q (free t))))

  swallowed : Sane c (l ⟨⟩ used (s + room r) d ∷ past r) one
  swallowed = swallow_behind c f l r s d o

  -- no grain of the block, with what is free after it, is in a list
  pub after_none : (u : ℕ) → total l ≤ u → u < total l + (s + room r) → NotIn (skip r (total l + s) f) u
  after_none = used_unlisted c _ _ (total l) (s + room r) d swallowed (at_here l (past r) (used (s + room r) d))

  z_is : total (past l) ≡ total l - room l
  z_is = omega (arith, total_past l)

  pub both_lists : steps_lists f (beside_steps (total l) s (room l) (room r)) ≡ skip l (total (past l)) (skip r (total l + s) f)
  both_lists = lists_append f (leave_steps (room r) (total l + s)) (leave_steps (room l) (total l - room l))
      ∙ ap (λ (g : Lists). steps_lists g (leave_steps (room l) (total l - room l))) after_lists
      ∙ ap (λ (z : ℕ). steps_lists one (leave_steps (room l) z)) (sym z_is)
      ∙ skip_lists one l (total (past l)) (some_before l parts.0)

  pub both_legal : Legal f (beside_steps (total l) s (room l) (room r))
  both_legal = legal_append f (leave_steps (room r) (total l + s)) (leave_steps (room l) (total l - room l)) after_legal
      (subst (λ (g : Lists). Legal g (leave_steps (room l) (total l - room l))) (sym after_lists)
      (subst (λ (z : ℕ). Legal one (leave_steps (room l) z)) z_is
      (skip_legal one l (total (past l)) (λ t q e. swallowed.exact.listed (total (past l)) t
      (subst (λ (v : List Block). BlockAt (total (past v)) (free t) 0 (v ⟨⟩ used (s + room r) d ∷ past r)) (sym e) (at_here q (used (s + room r) d ∷ past r) (free t)))))))

  -- nor, with what is free on both sides
  pub both_none : (u : ℕ) → total (past l) ≤ u → u < total (past l) + (room l + (s + room r)) → NotIn (skip l (total (past l)) (skip r (total l + s) f)) u
  both_none = used_unlisted c _ _ (total (past l)) (room l + (s + room r)) 1 (swallow c f l r s d o) (at_here (past l) (past r) (used (room l + (s + room r)) 1))
