-- T7 in memory, for a payload that moves. When a resize answers with another place, the old payload's words must be
-- carried there, and the plan's writes are in two parts: the first spares the old payload, the second the new one. So
-- the words are to be carried between the two. (The first part may write links into the new payload's words, and the
-- second a header into the old one's: before the first or after the second would be wrong.)
use Rattle.std.specs.Prelude.{ℕ, ◌+◌, ◌-◌, ◌*◌, ◌≤◌, ◌≡◌, List, ◌++◌, length}
use Rattle.definition.specs.Calls.{place}
use Rattle.script.specs.Memory.{Write}
use Rattle.sound.specs.Plans.{Plan}
use Rattle.sound.specs.PayloadWrites.{Spares}

-- the payload of the block of s grains at y moves from its place d to one with room for p half grains, which is enough
pub record Carried (y s d p : ℕ) (t : Plan) : Type 0 where
  pub first : List Write
  pub second : List Write
  pub parts : t.writes ≡ first ++ second
  pub early : t.early ≡ length first
  pub start : ℕ
  pub grains : ℕ
  pub place : ℕ
  pub answer : t.answer ≡ 2 * start + place
  pub long : place + p ≤ 2 * grains
  pub moved : t.moved ≡ 2 * s - d
  pub enough : 2 * s - d ≤ p
  pub old_stays : Spares y s d first
  pub new_stays : Spares start grains place second
