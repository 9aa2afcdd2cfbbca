-- What holds on any memory, damaged or not, where a region is taken in: the table has room, every entry of it is a region
-- of the arena, and the new one lies apart from all of them. A full table is refused with 6, a region that is too short,
-- outside, overlaps, or must follow another and doesn't, with 4; a table that can't be right with 5.
use Prim.Native.Nat.{ℕ, ◌+◌, ◌≤◌, ◌<◌}
use Rattle.std.specs.Prelude.{◌≡◌, []}
use Rattle.script.specs.Memory.{Memory, Table}
use Rattle.script.specs.Script.{Gives}
use Rattle.sound.specs.Plans.{Plan}
use Rattle.sound.specs.RegionPlan.{Layout, lay_script, planned}
use Rattle.sound.specs.RegionTable.{first_of, end_of, Off}

-- region j is one of an arena of n grains
abbrev pub Right : ℕ → Memory → ℕ → Type 0
Right n m j = (first_of m j + 2 ≤ end_of m j) × (end_of m j ≤ n)

-- len grains from g on are taken in, laid out as w says
pub record RegionChecked (most behind n c g len : ℕ) (m : Memory) (t : Plan) : Type 0 where
  pub w : Layout
  pub spare : m Table 0 < most
  pub long : 2 ≤ len
  pub inside : g + len ≤ n
  pub right : (j : ℕ) → j < m Table 0 → Right n m j
  pub clear : (j : ℕ) → j < m Table 0 → Off m g len j
  pub follows : 1 ≤ behind → (j : ℕ) × (j < m Table 0) × (end_of m j ≡ g)
  pub laid : Gives m (lay_script n c len [] g len) w
  pub plan : t ≡ planned (m Table 0) g len w
