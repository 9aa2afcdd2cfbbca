-- How many words each call writes at the most, on any memory, damaged or not; reallocate beside what it moves.
use Rattle.std.specs.Prelude.{ℕ, ◌+◌, ◌*◌, ◌≤◌, ◌≡◌, List, [], ◌∷◌, length}
use Rattle.std.proofs.Common.{arith, length-append}
use Rattle.definition.specs.Calls.{place, keeps}
use Rattle.script.specs.Memory.{Write}
use Rattle.script.specs.Script.{over, Ends}
use Rattle.script.proofs.Script.{ends_bind, ends_any, ends_over}
use Rattle.tags.proofs.Within.{allocate_length}
use Rattle.chains.specs.Steps.{Step, leave, enter, step_script, steps_script}
use Rattle.plans.specs.Deeds.{Deed, Plan, guard_writes, plan_script, writes}
use Rattle.plans.specs.Allocate.{allocate_deed, see_taken, allocate_script}
use Rattle.plans.specs.Costs.{cost, costs, deed_costs, allocate_costs}

-- ---- a block that leaves a list takes four writes, one that enters five, a guard two

step_length : (s : Step) → Ends (λ (w : List Write). length w ≤ cost 4 5 s) (step_script s)
step_length (leave k y) = λ x p h b. omega arith
step_length (enter k y) = λ b h. omega arith

steps_length : (l : List Step) → Ends (λ (w : List Write). length w ≤ costs 4 5 l) (steps_script l)
unfolding steps_script
steps_length [] = omega arith
steps_length (s ∷ l) =
    ends_bind (λ (w : List Write). length w ≤ cost 4 5 s) _ (step_script s) _ (step_length s) λ w h.
    ends_bind (λ (w : List Write). length w ≤ costs 4 5 l) _ (over w (steps_script l)) _ (ends_over _ w (steps_script l) (steps_length l)) λ v k.
    rw length-append (omega arith)

guard_length : (l : List ℕ) → length (guard_writes l) ≡ 2 * length l
guard_length [] = omega arith
guard_length (x ∷ l) = omega (arith, guard_length l)

pub plan_length : (t : Deed) (n : ℕ) → deed_costs 4 5 t + (2 * length t.guards + length t.records) ≤ n → Ends (λ (p : Plan). length (writes p) ≤ n) (plan_script t)
unfolding plan_script
plan_length t n h =
    ends_bind (λ (w : List Write). length w ≤ costs 4 5 t.early) _ (steps_script t.early) _ (steps_length t.early) λ w i.
    ends_bind (λ (w : List Write). length w ≤ costs 4 5 t.late) _ (over w (steps_script t.late)) _ (ends_over _ w (steps_script t.late) (steps_length t.late)) λ v j.
    rw (length-append, length-append, length-append) (omega (arith, guard_length t.guards))

-- ---- the calls

-- 16 words
pub allocate_writes : (n c p a : ℕ) → Ends (λ (t : Plan). length (writes t) ≤ 16) (allocate_script n c p a)
unfolding allocate_script
allocate_writes n c p a =
    ends_any _ (see_taken n c p a) _ λ t.
    let d = place a t.block in
    plan_length (allocate_deed p a t) 16 (omega (arith, allocate_costs 4 5 p a t, allocate_length t.block t.grains (keeps d p) d))
