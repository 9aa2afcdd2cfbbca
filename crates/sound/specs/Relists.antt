-- Steps on the lists: some writes turn a memory strung for f into one strung for g, and leave the other fields, and the
-- previous-links of grains that are in no list, as they were.
use Rattle.std.specs.Prelude.{ℕ, ◌≡◌, List}
use Rattle.definition.specs.Lists.{Lists}
use Rattle.invariants.specs.Members.{Mem, Apiece}
use Rattle.script.specs.Memory.{Memory, Next, Prev, Mark, none, Write, apply, Untouched}
use Rattle.sound.specs.Chain.{Real}
use Rattle.sound.specs.Strung.{Strung}

-- y is in no list
abbrev pub NotIn : Lists → ℕ → Type 0
NotIn f y = (k : ℕ) → Mem y (f k) → ⊥

abbrev pub Fewer : Lists → Lists → Type 0
Fewer g f = (k y : ℕ) → Mem y (g k) → Mem y (f k)

pub record Relists (m : Memory) (f : Lists) (w : List Write) (g : Lists) : Type 0 where
  pub strung : Strung (apply m w) g
  pub apiece : Apiece g
  pub real : Real g
  pub quiet : (y : ℕ) → (y ≡ none → ⊥) → NotIn f y → NotIn g y → apply m w Prev y ≡ m Prev y
  pub rest : (i : ℕ) → (Next ≡ i → ⊥) → (Prev ≡ i → ⊥) → (Mark ≡ i → ⊥) → Untouched i w
