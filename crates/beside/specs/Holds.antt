-- What is known of numbers that the checks gave: the payload's block is whole and in the arena, and so are its free neighbours.
use Rattle.std.specs.Prelude.{ℕ, ◌+◌, ◌-◌, ◌*◌, ◌≤◌, ◌<◌, ◌≡◌, List}
use Rattle.std.proofs.Common.{arith}
use Rattle.script.specs.Memory.{Memory}
use Rattle.script.specs.Script.{ok, run}
use Rattle.machine.specs.Machine.{words, classes}
use Rattle.plans.specs.Checks.{see_free, see_owner, see_after, see_before}
use Rattle.plans.proofs.Checked.{whole_checked, owner_checked}
use Rattle.plans.proofs.StorableParts.{after_ready, before_ready}
use Rattle.plans.proofs.StorableCalls.{owner_inside}
use Rattle.lent.specs.Slices.{grains}
use Rattle.entries.specs.Answers.{held}

-- a free block that was seen has some grains
pub seen_some : (a l t g : List ℕ) (y s : ℕ) → run (held a l t g) (see_free (grains a) y) ≡ ok s → 0 < s
seen_some a l t g y s h = omega (arith, (whole_checked (held a l t g) (grains a) y h).starts.some)

module _ (m : Memory) (n : ℕ) where
  -- the payload at q is in a block of s grains at x
  pub owner_holds : (q x s : ℕ) → run m (see_owner n q) ≡ ok (record { at = x; grains = s }) → (0 < s) × (x + s < n) × (2 * x ≤ q) × (q - 2 * x ≤ 2 * s)
  owner_holds q x s h =
      let o = owner_checked m n q h in
      let i = owner_inside m n q (record { at = x; grains = s }) o in
      (omega (arith, o.some), o.ends, i.0, i.1.within)

  -- b grains are free from y on, a before x
  pub after_holds : (y b : ℕ) → run m (see_after n classes y) ≡ ok b → y + b < n
  after_holds y b h = (after_ready n classes words m y h).0

  pub before_holds : (x a : ℕ) → run m (see_before n classes x) ≡ ok a → x < n → a ≤ x
  before_holds x a h i = (before_ready n classes words m x i h).0
