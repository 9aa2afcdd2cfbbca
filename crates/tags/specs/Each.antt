-- What holds of each of some writes.
use Rattle.std.specs.Prelude.{List, [], ◌∷◌}
use Rattle.script.specs.Memory.{Write}

abbrev pub Each : (Write → Type 0) → List Write → Type 0
Each P [] = Unit {0}
Each P (w ∷ l) = P w × Each P l
