-- The writes that take a block out of its list of free blocks, and that put one at the head of a list. The last block of a
-- list says that itself is next, and the first that itself is previous: so every link leads to a free block, and no word
-- stands for none. A head counts only if its list is marked.
use Rattle.std.specs.Prelude.{ℕ, List, [], ◌∷◌}
use Rattle.choice.specs.Choice.{if_eq}
use Rattle.script.specs.Memory.{Next, Prev, Mark, Write, ◌at◌≔◌}

-- the field that holds the head of each list
abbrev pub Head : ℕ
Head = 1

-- the mark that list k keeps when y leaves it: 0 where y was alone, else the mark b that it had
abbrev pub mark_left : ℕ → ℕ → ℕ → ℕ → ℕ
mark_left y x p b = if_eq x y (if_eq p y 0 b) b

-- y, whose next is x and whose previous is p, leaves list k, which has the head h and the mark b
abbrev pub leave_writes : ℕ → ℕ → ℕ → ℕ → ℕ → ℕ → List Write
leave_writes k y x p h b =
    (Next at p ≔ if_eq x y p x) ∷ (Prev at x ≔ if_eq p y x p) ∷ (Head at k ≔ if_eq p y x h) ∷ (Mark at k ≔ mark_left y x p b) ∷ []

-- what becomes the next of y when it enters a list with the mark b and the head h: the head, or y itself
abbrev pub next_of : ℕ → ℕ → ℕ → ℕ
next_of y b h = if_eq b 0 y h

-- y enters list k, before t
abbrev pub enter_writes : ℕ → ℕ → ℕ → List Write
enter_writes k y t = (Prev at t ≔ y) ∷ (Prev at y ≔ y) ∷ (Next at y ≔ t) ∷ (Head at k ≔ y) ∷ (Mark at k ≔ 1) ∷ []
