-- Steps on strung lists: where each block that leaves is in its list and each that enters is in none, the lists stay
-- strung, and become what the definition's lists become.
use Rattle.std.specs.Prelude.{ℕ, ◌≡◌, List, [], ◌∷◌}
use Rattle.definition.specs.Lists.{Lists, push, drop}
use Rattle.invariants.specs.Members.{Mem, Apiece}
use Rattle.script.specs.Memory.{Memory, Next, Prev, Mark}
use Rattle.chains.specs.Links.{Head}
use Rattle.chains.specs.Steps.{Step, leave, enter}
use Rattle.chains.specs.Strung.{Strung}

-- y is in no list
abbrev pub NotIn : Lists → ℕ → Type 0
NotIn f y = (k : ℕ) → Mem y (f k) → ⊥

abbrev pub Legal : Lists → List Step → Type 0
Legal f [] = Unit {0}
Legal f (leave k y ∷ l) = Mem y (f k) × Legal (drop k y f) l
Legal f (enter k y ∷ l) = NotIn f y × Legal (push k y f) l

-- all lists are strung, and no block is in two of them, or twice in one
pub record Kept (m : Memory) (f : Lists) : Type 0 where
  pub apiece : Apiece f
  pub strung : Strung m f

-- ---- what steps leave alone

-- a field that is no link, head or mark
pub record Else (i : ℕ) : Type 0 where
  pub next : Next ≡ i → ⊥
  pub prev : Prev ≡ i → ⊥
  pub head : Head ≡ i → ⊥
  pub mark : Mark ≡ i → ⊥
