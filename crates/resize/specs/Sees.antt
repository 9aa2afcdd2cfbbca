-- The checks, step by step.
use Rattle.std.specs.Prelude.{ℕ, ◌+◌, ◌-◌, ◌*◌, ◌≤◌, ◌<◌, ◌≡◌}
use Rattle.std.proofs.Common.{arith, ◌∙◌}
use Rattle.std.proofs.Math.Path.{ap}
use Rattle.choice.specs.Choice.{eq_yes, eq_no, le_yes, le_no}
use Rattle.definition.specs.Calls.{place, keeps}
use Rattle.script.specs.Memory.{Memory}
use Rattle.script.specs.Script.{Script, ok, no, run, ◌>>=◌, ◌>>◌}
use Rattle.script.proofs.Script.{goes, halts, gives_done}
use Rattle.machine.specs.Machine.{classes}
use Rattle.plans.specs.Deeds.{Deed}
use Rattle.plans.specs.Checks.{see_owner, see_guard, see_after, see_before, see_rest, see_join}
use Rattle.plans.specs.Allocate.{Taken, see_taken}
use Rattle.plans.specs.Reallocate.{stay_deed, stretch_deed, down_deed, elsewhere_deed, elsewhere_script, down_script, move_script, stretch_script, resize_script}

-- the checks of reallocate as one script, whose answer is the deed
unfoldable pub block : ℕ → ℕ → ℕ → ℕ → ℕ → ℕ → Script Deed
block n q p u x s = do
  see_guard x
  resize_script n classes q p u x s (q - 2 * x)

unfoldable pub see_resized : ℕ → ℕ → ℕ → ℕ → Script Deed
see_resized n q p u = do
  o ← see_owner n q
  block n q p u o.at o.grains

module _ (m : Memory) (n : ℕ) where
  -- ---- the payload's block

  module _ (q p u : ℕ) where
    pub owner_refused : (i : ℕ) → run m (see_owner n q) ≡ no i → run m (see_resized n q p u) ≡ no i
    unfolding see_resized
    owner_refused i h = halts m (see_owner n q) _ h

    module _ (x s : ℕ) (h : run m (see_owner n q) ≡ ok (record { at = x; grains = s })) where
      pub owner_found : run m (see_resized n q p u) ≡ run m (block n q p u x s)
      unfolding see_resized
      owner_found = goes m (see_owner n q) _ h

    -- ---- its guard, and its size

    module _ (x s : ℕ) where
      pub guard_bad : (i : ℕ) → run m (see_guard x) ≡ no i → run m (block n q p u x s) ≡ no i
      unfolding block
      guard_bad i h = halts m (see_guard x) _ h

      module _ (h : run m (see_guard x) ≡ ok (tt {0})) where
        pub size_same : keeps (q - 2 * x) p ≡ s → run m (block n q p u x s) ≡ ok (stay_deed q)
        unfolding block resize_script
        size_same e = goes m (see_guard x) _ h ∙ ap (run m) (eq_yes (keeps (q - 2 * x) p) s _ _ e) ∙ gives_done m _

        module _ (e : keeps (q - 2 * x) p ≡ s → ⊥) where
          pub after_bad : (i : ℕ) → run m (see_after n classes (x + s)) ≡ no i → run m (block n q p u x s) ≡ no i
          unfolding block resize_script
          after_bad i k = goes m (see_guard x) _ h ∙ ap (run m) (eq_no (keeps (q - 2 * x) p) s _ _ e) ∙ halts m (see_after n classes (x + s)) _ k

          pub after_found : (b : ℕ) → run m (see_after n classes (x + s)) ≡ ok b → run m (block n q p u x s) ≡ run m (stretch_script n classes q p u x s (q - 2 * x) b)
          unfolding block resize_script
          after_found b k = goes m (see_guard x) _ h ∙ ap (run m) (eq_no (keeps (q - 2 * x) p) s _ _ e) ∙ goes m (see_after n classes (x + s)) _ k

  -- ---- in place

  module _ (q p u x s d b : ℕ) where
    module _ (l : keeps d p ≤ s + b) where
      pub stretch_bad : (i : ℕ) → run m (see_rest n classes (s + b) (keeps d p)) ≡ no i → run m (stretch_script n classes q p u x s d b) ≡ no i
      unfolding stretch_script
      stretch_bad i h = ap (run m) (le_yes (keeps d p) (s + b) _ _ l) ∙ halts m (see_rest n classes (s + b) (keeps d p)) _ h

      pub stretch_found : run m (see_rest n classes (s + b) (keeps d p)) ≡ ok (tt {0}) → run m (stretch_script n classes q p u x s d b) ≡ ok (stretch_deed q x s d b (keeps d p))
      unfolding stretch_script
      stretch_found h = ap (run m) (le_yes (keeps d p) (s + b) _ _ l) ∙ goes m (see_rest n classes (s + b) (keeps d p)) _ h ∙ gives_done m _

    pub stretch_small : s + b < keeps d p → run m (stretch_script n classes q p u x s d b) ≡ run m (move_script n classes p u x s d b)
    unfolding stretch_script
    stretch_small l = ap (run m) (le_no (keeps d p) (s + b) _ _ (omega arith))

  module _ (p u x s d b : ℕ) where
    -- ---- the block before it

    pub before_bad : (i : ℕ) → run m (see_before n classes x) ≡ no i → run m (move_script n classes p u x s d b) ≡ no i
    unfolding move_script
    before_bad i h = halts m (see_before n classes x) _ h

    module _ (a : ℕ) (h : run m (see_before n classes x) ≡ ok a) where
      pub before_none : a ≡ 0 → run m (move_script n classes p u x s d b) ≡ run m (elsewhere_script n classes p u x s d 0 b)
      unfolding move_script
      before_none e = goes m (see_before n classes x) _ h ∙ ap (run m) (eq_yes a 0 _ _ e)

      pub before_some : (a ≡ 0 → ⊥) → run m (move_script n classes p u x s d b) ≡ run m (down_script n classes p u x s d a b)
      unfolding move_script
      before_some e = goes m (see_before n classes x) _ h ∙ ap (run m) (eq_no a 0 _ _ e)

    module _ (a : ℕ) where
      -- ---- downwards

      module _ (l : keeps (place u (x - a)) p ≤ a + (s + b)) where
        pub down_bad : (i : ℕ) → run m (see_rest n classes (a + (s + b)) (keeps (place u (x - a)) p)) ≡ no i → run m (down_script n classes p u x s d a b) ≡ no i
        unfolding down_script
        down_bad i h = ap (run m) (le_yes (keeps (place u (x - a)) p) (a + (s + b)) _ _ l) ∙ halts m (see_rest n classes (a + (s + b)) (keeps (place u (x - a)) p)) _ h

        pub down_found : run m (see_rest n classes (a + (s + b)) (keeps (place u (x - a)) p)) ≡ ok (tt {0})
            → run m (down_script n classes p u x s d a b) ≡ ok (down_deed x s d a b (keeps (place u (x - a)) p) (place u (x - a)))
        unfolding down_script
        down_found h = ap (run m) (le_yes (keeps (place u (x - a)) p) (a + (s + b)) _ _ l) ∙ goes m (see_rest n classes (a + (s + b)) (keeps (place u (x - a)) p)) _ h ∙ gives_done m _

      pub down_small : a + (s + b) < keeps (place u (x - a)) p → run m (down_script n classes p u x s d a b) ≡ run m (elsewhere_script n classes p u x s d a b)
      unfolding down_script
      down_small l = ap (run m) (le_no (keeps (place u (x - a)) p) (a + (s + b)) _ _ (omega arith))

      -- ---- elsewhere

      pub taken_bad : (i : ℕ) → run m (see_taken n classes p u) ≡ no i → run m (elsewhere_script n classes p u x s d a b) ≡ no i
      unfolding elsewhere_script
      taken_bad i h = halts m (see_taken n classes p u) _ h

      module _ (t : Taken) (h : run m (see_taken n classes p u) ≡ ok t) where
        pub join_bad : (i : ℕ) → run m (see_join n classes (a + (s + b))) ≡ no i → run m (elsewhere_script n classes p u x s d a b) ≡ no i
        unfolding elsewhere_script
        join_bad i k = goes m (see_taken n classes p u) _ h ∙ halts m (see_join n classes (a + (s + b))) _ k

        pub join_found : run m (see_join n classes (a + (s + b))) ≡ ok (tt {0}) → run m (elsewhere_script n classes p u x s d a b) ≡ ok (elsewhere_deed p u x s d a b t)
        unfolding elsewhere_script
        join_found k = goes m (see_taken n classes p u) _ h ∙ goes m (see_join n classes (a + (s + b))) _ k ∙ gives_done m _
