-- The writes that take a block out of its free list, and that put one at the head of a list.
use Rattle.std.specs.Prelude.{ℕ, List, [], ◌∷◌}
use Rattle.choice.specs.Choice.{if_eq}
use Rattle.script.specs.Memory.{Next, Prev, Mark, none, root, Write, ◌at◌≔◌}

-- the node before a block of list k, where p is its previous free block: the list's root where there is none
abbrev pub node : ℕ → ℕ → ℕ
node k p = if_eq p none (root k) p

-- a block of list k, whose neighbours in the list are x behind it and p before it, is taken out
abbrev pub unlink_writes : ℕ → ℕ → ℕ → List Write
unlink_writes k x p = (Next at node k p ≔ x) ∷ if_eq x none (if_eq p none ((Mark at k ≔ 0) ∷ []) []) ((Prev at x ≔ p) ∷ [])

-- y is put at the head of list k, before h
abbrev pub push_writes : ℕ → ℕ → ℕ → List Write
push_writes k y h = if_eq h none
    ((Mark at k ≔ 1) ∷ (Prev at y ≔ none) ∷ (Next at y ≔ h) ∷ (Next at root k ≔ y) ∷ [])
    ((Prev at h ≔ y) ∷ (Prev at y ≔ none) ∷ (Next at y ≔ h) ∷ (Next at root k ≔ y) ∷ [])
