-- There is a list for s grains exactly if a piece has more. So the check for a list is one comparison, before the list is
-- computed; and what is to become of t grains is a check of one head.
use Rattle.std.specs.Prelude.{ℕ, suc, ◌-◌, ◌*◌, ◌≤◌, ◌<◌, ◌≡◌}
use Rattle.std.proofs.Common.{arith, ◌∙◌}
use Rattle.std.proofs.Math.Path.{ap}
use Rattle.choice.specs.Choice.{eq_yes, eq_no}
use Rattle.class.specs.Class.{list_of}
use Rattle.class.proofs.Class.{list_small, list_large}
use Rattle.script.specs.Memory.{Memory}
use Rattle.script.specs.Script.{ok, no, run}
use Rattle.script.proofs.Script.{goes, halts, gives_done, gives_le, halts_le}
use Rattle.machine.specs.Machine.{classes, piece}
use Rattle.machine.specs.Machine.{lists as list_count}
use Rattle.plans.specs.Checks.{must_list, see_head, see_rest, see_join}

-- the list of s grains is one
pub list_fits : (s : ℕ) → 0 < s → s < piece → list_of s < list_count
list_fits s h k = list_small s h classes k

module _ (m : Memory) (s : ℕ) (h : 0 < s) where
  pub list_there : s < piece → run m (must_list classes s) ≡ ok (tt {0})
  list_there k = gives_le m 5 (suc (list_of s)) (16 * classes) (omega (arith, list_fits s h k))

  pub list_missing : piece ≤ s → run m (must_list classes s) ≡ no 5
  list_missing k = halts_le m 5 (suc (list_of s)) (16 * classes) (omega (arith, list_large s classes h k))

-- ---- t grains

module _ (m : Memory) (n t : ℕ) (h : 0 < t) where
  -- k of them are kept
  module _ (k : ℕ) where
    pub rest_long : piece ≤ t → run m (see_rest n classes t k) ≡ no 5
    unfolding see_rest
    rest_long q = halts m (must_list classes t) _ (list_missing m t h q)

    pub rest_none : t < piece → k ≡ t → run m (see_rest n classes t k) ≡ ok (tt {0})
    unfolding see_rest
    rest_none q e = goes m (must_list classes t) _ (list_there m t h q) ∙ ap (run m) (eq_yes k t _ _ e) ∙ gives_done m (tt {0})

    pub rest_some : t < piece → (k ≡ t → ⊥) → run m (see_rest n classes t k) ≡ run m (see_head n (list_of (t - k)))
    unfolding see_rest
    rest_some q e = goes m (must_list classes t) _ (list_there m t h q) ∙ ap (run m) (eq_no k t _ _ e)

  -- all of them enter their list
  pub join_long : piece ≤ t → run m (see_join n classes t) ≡ no 5
  unfolding see_join
  join_long q = halts m (must_list classes t) _ (list_missing m t h q)

  pub join_head_lem : t < piece → run m (see_join n classes t) ≡ run m (see_head n (list_of t))
  unfolding see_join
  join_head_lem q = goes m (must_list classes t) _ (list_there m t h q)
