-- What follows from specs/Costs.antt.
use Rattle.std.specs.Prelude.{ℕ, ◌+◌, ◌-◌, ◌*◌, ◌≤◌, List, [], ◌∷◌, ◌++◌, ◌≡◌}
use Rattle.std.proofs.Common.{arith, length-append}
use Rattle.choice.specs.Choice.{eq_case, le_case}
use Rattle.definition.specs.Calls.{place, keeps}
use Rattle.script.specs.Script.{Ends}
use Rattle.script.proofs.Script.{ends_any}
use Rattle.tags.proofs.Within.{allocate_length, deallocate_length, stretch_length, down_length}
use Rattle.chains.specs.Steps.{Step}
use Rattle.plans.specs.Checks.{see_after, see_before, see_rest, see_join}
use Rattle.plans.specs.Allocate.{rest_steps, Taken, taken_steps, see_taken}
use Rattle.plans.specs.Deallocate.{leave_steps, beside_steps, deallocate_deed}
use Rattle.plans.specs.Reallocate.{stretch_deed, down_deed, elsewhere_deed, elsewhere_script, down_script, move_script, stretch_script, resize_script}
use Rattle.plans.specs.Costs.{costs, deed_costs, Small}

module _ (u v : ℕ) where
  costs_append : (a b : List Step) → costs u v (a ++ b) ≡ costs u v a + costs u v b
  costs_append [] b = omega arith
  costs_append (s ∷ a) b = omega (arith, costs_append a b)

  rest_costs : (x t k : ℕ) → costs u v (rest_steps x t k) ≤ v
  rest_costs = Rattle.plans.specs.Costs.rest_costs u v

  leave_costs : (t y : ℕ) → costs u v (leave_steps t y) ≤ u
  leave_costs t y = eq_case (λ (l : List Step). costs u v l ≤ u) t 0 _ _ (λ _. omega arith) (λ _. omega arith)

  beside_costs : (x s a b : ℕ) → costs u v (beside_steps x s a b) ≤ 2 * u
  beside_costs x s a b = omega (arith, costs_append (leave_steps b (x + s)) (leave_steps a (x - a)), leave_costs b (x + s), leave_costs a (x - a))

  taken_costs : (p a : ℕ) (t : Taken) → costs u v (taken_steps p a t) ≤ u + v
  taken_costs = Rattle.plans.specs.Costs.taken_costs u v

  -- ---- of each deed

  pub deallocate_costs : (x s d a b : ℕ) → deed_costs u v (deallocate_deed x s d a b) ≤ 2 * u + v
  deallocate_costs x s d a b = omega (arith, beside_costs x s a b)

  stretch_costs : (q x s d b k : ℕ) → deed_costs u v (stretch_deed q x s d b k) ≤ 3 * u + 2 * v
  stretch_costs q x s d b k = omega (arith, costs_append (leave_steps b (x + s)) (rest_steps x (s + b) k), leave_costs b (x + s), rest_costs x (s + b) k)

  down_costs : (x s d a b k e : ℕ) → deed_costs u v (down_deed x s d a b k e) ≤ 3 * u + 2 * v
  down_costs x s d a b k e = omega (arith, beside_costs x s a b, rest_costs (x - a) (a + (s + b)) k)

  elsewhere_costs : (p m x s d a b : ℕ) (t : Taken) → deed_costs u v (elsewhere_deed p m x s d a b t) ≤ 3 * u + 2 * v
  elsewhere_costs p m x s d a b t = omega (arith, costs_append (beside_steps x s a b) (taken_steps p m t), beside_costs x s a b, taken_costs p m t)

-- ---- reallocate: three blocks leave, and two enter; there is one guard, and eleven other writes

elsewhere_small : (n c p m x s d a b : ℕ) → Ends Small (elsewhere_script n c p m x s d a b)
unfolding elsewhere_script
elsewhere_small n c p m x s d a b =
    ends_any Small (see_taken n c p m) _ λ t.
    ends_any Small (see_join n c (a + (s + b))) _ λ _.
    record {
      steps = λ u v. elsewhere_costs u v p m x s d a b t;
      guards = omega arith;
      records = rw length-append (omega (arith, allocate_length t.block t.grains (keeps (place m t.block) p) (place m t.block), deallocate_length x s d a b));
    }

pub resize_small : (n c q p m x s d : ℕ) → Ends Small (resize_script n c q p m x s d)
unfolding resize_script stretch_script move_script down_script
resize_small n c q p m x s d =
    eq_case (Ends Small) (keeps d p) s _ _ (λ _. record { steps = λ u v. omega arith; guards = omega arith; records = omega arith }) λ _.
    ends_any Small (see_after n c (x + s)) _ λ b.
    le_case (Ends Small) (keeps d p) (s + b) _ _
    (λ _. ends_any Small (see_rest n c (s + b) (keeps d p)) _ λ _.
    record { steps = λ u v. stretch_costs u v q x s d b (keeps d p); guards = omega arith; records = omega (arith, stretch_length x s d b (keeps d p)) })
    (λ _. ends_any Small (see_before n c x) _ λ a.
    eq_case (Ends Small) a 0 _ _ (λ _. elsewhere_small n c p m x s d 0 b) λ _.
    let e = place m (x - a) in
    le_case (Ends Small) (keeps e p) (a + (s + b)) _ _
    (λ _. ends_any Small (see_rest n c (a + (s + b)) (keeps e p)) _ λ _.
    record { steps = λ u v. down_costs u v x s d a b (keeps e p) e; guards = omega arith; records = omega (arith, down_length x s d a b (keeps e p) e) })
    (λ _. elsewhere_small n c p m x s d a b))
