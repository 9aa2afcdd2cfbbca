-- Steps that are made only if there is something to do: a neighbour that may be missing leaves, a rest that may be nothing
-- enters.
use Rattle.std.specs.Prelude.{ℕ, ◌+◌, ◌-◌, ◌<◌, ◌≡◌, List, [], ◌∷◌}
use Rattle.std.proofs.Common.{sym, subst}
use Rattle.choice.specs.Choice.{eq_yes, eq_no, eq_case}
use Rattle.class.specs.Class.{list_of}
use Rattle.machine.specs.Machine.{lists as list_count}
use Rattle.chains.specs.Steps.{Step, leave, enter}
use Rattle.plans.specs.Allocate.{rest_steps}
use Rattle.plans.specs.Deallocate.{leave_steps}
use Rattle.lent.specs.Slices.{grains}
use Rattle.entries.specs.Answers.{Long}
use Rattle.entries.specs.Stepped.{Stepped, Leaves, Enters}
use Rattle.deeds.specs.Runs.{Runs, Blocks, CanRun, can_leave, can_enter, runs_none, runs_then}

-- one step
runs_one : (s : Step) (a ls b d : List ℕ) → CanRun (s ∷ []) a ls → Stepped s a ls b d → Runs (s ∷ []) a ls b d
runs_one s a ls b d c h = runs_then s [] a ls b d b d c h (runs_none b d)

-- the blocks that leave are grains
pub leave_blocks : (n t y : ℕ) → y < n → Blocks n (leave_steps t y)
leave_blocks n t y h = eq_case (Blocks n) t 0 [] (leave (list_of t) y ∷ []) (λ _. tt) (λ _. (h, tt))

pub rest_blocks : (n x t k : ℕ) → Blocks n (rest_steps x t k)
rest_blocks n x t k = eq_case (Blocks n) k t [] (enter (list_of (t - k)) (x + k) ∷ []) (λ _. tt) (λ _. tt)

module _ (a ls : List ℕ) where
  -- ---- a neighbour of t grains at y; 0 stands for none

  module _ (t y : ℕ) (c : CanRun (leave_steps t y) a ls) where
    pub none_leaves : t ≡ 0 → Runs (leave_steps t y) a ls a ls
    none_leaves e = subst (λ (l : List Step). Runs l a ls a ls) (sym (eq_yes t 0 [] (leave (list_of t) y ∷ []) e)) (runs_none a ls)

    module _ (n : t ≡ 0 → ⊥) (k : ℕ) (i : k ≡ list_of t) where
      leaving : CanRun (leave k y ∷ []) a ls
      leaving = subst (λ (j : ℕ). CanRun (leave j y ∷ []) a ls) (sym i) (subst (λ (l : List Step). CanRun l a ls) (eq_no t 0 [] (leave (list_of t) y ∷ []) n) c)

      pub one_can_leave : Long ls × (k < list_count) × (y < grains a) × Leaves a y
      one_can_leave = can_leave k y [] a ls leaving

      pub one_leaves : (b d : List ℕ) → Stepped (leave k y) a ls b d → Runs (leave_steps t y) a ls b d
      one_leaves b d h =
          subst (λ (l : List Step). Runs l a ls b d) (sym (eq_no t 0 [] (leave (list_of t) y ∷ []) n))
          (subst (λ (j : ℕ). Runs (leave j y ∷ []) a ls b d) i (runs_one (leave k y) a ls b d leaving h))

  -- ---- what is left of t grains at x when k are kept

  module _ (x t k : ℕ) (c : CanRun (rest_steps x t k) a ls) where
    pub none_enters : k ≡ t → Runs (rest_steps x t k) a ls a ls
    none_enters e = subst (λ (l : List Step). Runs l a ls a ls) (sym (eq_yes k t [] (enter (list_of (t - k)) (x + k) ∷ []) e)) (runs_none a ls)

    module _ (n : k ≡ t → ⊥) where
      pub rest_below : x + k < grains a
      rest_below = (can_enter (list_of (t - k)) (x + k) [] a ls (subst (λ (l : List Step). CanRun l a ls) (eq_no k t [] (enter (list_of (t - k)) (x + k) ∷ []) n) c)).2

      module _ (j : ℕ) (i : j ≡ list_of (t - k)) where
        entering : CanRun (enter j (x + k) ∷ []) a ls
        entering =
            subst (λ (j : ℕ). CanRun (enter j (x + k) ∷ []) a ls) (sym i)
            (subst (λ (l : List Step). CanRun l a ls) (eq_no k t [] (enter (list_of (t - k)) (x + k) ∷ []) n) c)

        pub one_can_enter : Long ls × (j < list_count) × (x + k < grains a) × Enters a ls j
        one_can_enter = can_enter j (x + k) [] a ls entering

        pub one_enters : (b d : List ℕ) → Stepped (enter j (x + k)) a ls b d → Runs (rest_steps x t k) a ls b d
        one_enters b d h =
            subst (λ (l : List Step). Runs l a ls b d) (sym (eq_no k t [] (enter (list_of (t - k)) (x + k) ∷ []) n))
            (subst (λ (j : ℕ). Runs (enter j (x + k) ∷ []) a ls b d) i (runs_one (enter j (x + k)) a ls b d entering h))
