-- Resize writes only what can be stored, on any memory that a decoder may show, in each of its steps; what it hands out and
-- what it moves are inside the arena.
use Rattle.std.specs.Prelude.{ℕ, ◌+◌, ◌*◌, ◌≤◌, ◌<◌, ◌≡◌, ◌⊎◌}
use Rattle.script.specs.Memory.{Memory}
use Rattle.script.specs.Script.{Gives}
use Rattle.sound.specs.Checks.{Owner, see_owner}
use Rattle.sound.specs.Plans.{Plan}
use Rattle.sound.specs.Writable.{AllWritable}
use Rattle.sound.specs.WritableCalls.{Counted}

-- the u half grains from the payload's place q to its block's end are inside the arena, and fewer than p
pub record Movable (n : ℕ) (m : Memory) (q p u : ℕ) : Type 0 where
  pub owner : Owner
  pub seen : Gives m (see_owner q) owner
  pub end : q + u ≡ 2 * (owner.at + owner.grains)
  pub inside : q + u ≤ 2 * n
  pub fewer : u < p

-- all that a plan writes can be stored; its answer, with the p half grains there, is inside: the old place q, or one counted
-- anew for the alignment a; what is moved from q is inside too, and fits at the answer
pub record Storable (n c : ℕ) (m : Memory) (q p a : ℕ) (t : Plan) : Type 0 where
  pub writes : AllWritable n c t.writes
  pub some : 1 ≤ t.answer
  pub long : t.answer + p ≤ 2 * n
  pub from : (t.answer ≡ q) ⊎ Counted a t.answer
  pub moved : (t.moved ≡ 0) ⊎ Movable n m q p t.moved
