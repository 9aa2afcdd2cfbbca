-- What reallocate has found where it does not refuse: which of its four steps is taken, and what was seen for it. The tags are
-- those of blocks; links, heads and marks may be anything.
use Rattle.std.specs.Prelude.{ℕ, ◌-◌, ◌*◌, ◌<◌, ◌≡◌, List}
use Rattle.class.specs.Class.{list_of}
use Rattle.definition.specs.Blocks.{Block}
use Rattle.script.specs.Memory.{Memory}
use Rattle.chains.specs.Closed.{Headed}
use Rattle.armour.specs.Row.{Free}

-- t grains enter their list; or what is left of them when k are kept
abbrev pub Joins : ℕ → Memory → List Block → ℕ → Type 0
Joins c m xs t = (list_of t < 16 * c) × Headed (Free xs) m (list_of t)

abbrev pub Rests : ℕ → Memory → List Block → ℕ → ℕ → Type 0
Rests c m xs t k = (list_of t < 16 * c) × ((k ≡ t → ⊥) → Headed (Free xs) m (list_of (t - k)))
