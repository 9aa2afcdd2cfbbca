-- The checks, step by step.
use Rattle.std.specs.Prelude.{ℕ, ◌+◌, ◌≡◌}
use Rattle.std.proofs.Common.{◌∙◌}
use Rattle.script.specs.Memory.{Memory}
use Rattle.script.specs.Script.{ok, no, run}
use Rattle.script.proofs.Script.{goes, halts, gives_done}
use Rattle.machine.specs.Machine.{classes}
use Rattle.plans.specs.Checks.{see_owner, see_guard, see_after, see_before, see_join}
use Rattle.take_back.specs.Returned.{joined, sides, see_returned}

module _ (m : Memory) (n : ℕ) where
  -- ---- the payload's block

  pub owner_refused : (q i : ℕ) → run m (see_owner n q) ≡ no i → run m (see_returned n classes q) ≡ no i
  unfolding see_returned
  owner_refused q i h = halts m (see_owner n q) _ h

  pub owner_found : (q x s : ℕ) → run m (see_owner n q) ≡ ok (record { at = x; grains = s }) → run m (see_returned n classes q) ≡ run m (sides n classes x s)
  unfolding see_returned
  owner_found q x s h = goes m (see_owner n q) _ h

  -- ---- its guard, and the block after it

  module _ (x s : ℕ) where
    pub guard_bad : (i : ℕ) → run m (see_guard x) ≡ no i → run m (sides n classes x s) ≡ no i
    unfolding sides
    guard_bad i h = halts m (see_guard x) _ h

    module _ (h : run m (see_guard x) ≡ ok (tt {0})) where
      pub after_bad : (i : ℕ) → run m (see_after n classes (x + s)) ≡ no i → run m (sides n classes x s) ≡ no i
      unfolding sides
      after_bad i k = goes m (see_guard x) _ h ∙ halts m (see_after n classes (x + s)) _ k

      pub after_found : (b : ℕ) → run m (see_after n classes (x + s)) ≡ ok b → run m (sides n classes x s) ≡ run m (joined n classes x s b)
      unfolding sides
      after_found b k = goes m (see_guard x) _ h ∙ goes m (see_after n classes (x + s)) _ k

    -- ---- the block before it, and the list that all of it enters

    module _ (b : ℕ) where
      pub before_bad : (i : ℕ) → run m (see_before n classes x) ≡ no i → run m (joined n classes x s b) ≡ no i
      unfolding joined
      before_bad i k = halts m (see_before n classes x) _ k

      module _ (a : ℕ) (k : run m (see_before n classes x) ≡ ok a) where
        pub join_bad : (i : ℕ) → run m (see_join n classes (a + (s + b))) ≡ no i → run m (joined n classes x s b) ≡ no i
        unfolding joined
        join_bad i j = goes m (see_before n classes x) _ k ∙ halts m (see_join n classes (a + (s + b))) _ j

        pub join_found : run m (see_join n classes (a + (s + b))) ≡ ok (tt {0}) → run m (joined n classes x s b) ≡ ok (record { at = x; grains = s; before = a; after = b })
        unfolding joined
        join_found j = goes m (see_before n classes x) _ k ∙ goes m (see_join n classes (a + (s + b))) _ j ∙ gives_done m _
