-- The payload that a reallocation moves arrives unchanged, whatever the links say: the writes before the move spare the old
-- payload, and those after it spare what was moved.
use Rattle.std.specs.Prelude.{ℕ, ◌+◌, ◌*◌, ◌≤◌, ◌<◌, ◌≡◌, ◌⊎◌}
use Rattle.script.specs.Memory.{Next, Prev, Write}
use Rattle.tags.specs.Each.{Each}
use Rattle.chains.specs.Closed.{Bounds}
use Rattle.plans.specs.Deeds.{Plan}

-- A write of a link or a guard goes to the half grain 2 * place: it is none of the u half grains from b on.
abbrev pub Spares : ℕ → ℕ → Write → Type 0
Spares b u w = (w.field ≡ Next) ⊎ (w.field ≡ Prev) → (2 * w.place < b) ⊎ (b + u ≤ 2 * w.place)

-- u half grains are moved from q to the plan's answer
pub record Carried (q u : ℕ) (t : Plan) : Type 0 where
  pub moved : t.moved ≡ u
  pub old_stays : Each (Spares q u) t.early
  pub new_stays : Each (Spares t.answer u) t.late

-- blocks that do not start in these half grains
abbrev pub Beyond : ℕ → ℕ → ℕ → Type 0
Beyond b u x = (2 * x < b) ⊎ (b + u ≤ 2 * x)

abbrev pub beyond_bounds : ℕ → ℕ → Bounds
beyond_bounds b u = record { F = Beyond b u; L = λ k. Unit {0}; H = λ v. Unit {0}; B = λ v. Unit {0} }
