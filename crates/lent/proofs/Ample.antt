-- What follows from specs/Ample.antt.
use Rattle.std.specs.Prelude.{ℕ, List, [], ◌∷◌}
use Rattle.std.proofs.Common.{arith}
use Rattle.script.specs.Memory.{Write}
use Rattle.machine.specs.Machine.{words, classes}
use Rattle.tags.specs.Each.{Each}
use Rattle.plans.specs.Storable.{Storable, at_tag, at_next, at_prev, at_head, at_mark, at_table}
use Rattle.lent.specs.Slices.{Slices, grains, Valid, AllValid}
use Rattle.lent.specs.Ample.{Ample}

module _ (most : ℕ) (S : Slices) (a : Ample most S) where
  pub storable_one : (w : Write) → Storable (grains S.arena) classes words most w → Valid S w
  storable_one w (at_tag h k) = (omega (arith, a.tags), k)
  storable_one w (at_next h k) = (h, k)
  storable_one w (at_prev h k) = (h, k)
  storable_one w (at_head h k) = (omega (arith, a.lists), k)
  storable_one w (at_mark h k) = (h, omega (arith, a.lists), k)
  storable_one w (at_table h k) = (omega (arith, a.regions), k)

  pub storable_valid : (l : List Write) → Each (Storable (grains S.arena) classes words most) l → AllValid S l
  storable_valid [] h = tt
  storable_valid (w ∷ l) h = (storable_one w h.0, storable_valid l h.1)
