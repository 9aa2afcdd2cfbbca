-- What a function promises that makes a deed on the lent slices.
use Rattle.std.specs.Prelude.{ℕ, ◌≡◌, List}
use Rattle.plans.specs.Deeds.{Deed}
use Rattle.entries.specs.Answers.{slices}
use Rattle.deeds.specs.Stored.{done}

-- a deed that moves no payload, on the arena a, the lists l and the tags t; afterwards they are b, d and u. The regions are
-- as they were, whatever they are
pub record Does (w : Deed) (a l t b d u : List ℕ) : Type 0 where
  pub is : (g : List ℕ) → slices b d u g ≡ done (slices a l t g) w
