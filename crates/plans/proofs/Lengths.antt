-- What follows from specs/Lengths.antt.
use Rattle.std.specs.Prelude.{ℕ, ◌+◌, ◌-◌, ◌*◌, ◌≤◌, length}
use Rattle.std.proofs.Common.{arith}
use Rattle.script.specs.Script.{Ends}
use Rattle.script.proofs.Script.{ends_bind, ends_any}
use Rattle.tags.proofs.Within.{deallocate_length}
use Rattle.plans.specs.Deeds.{Plan, writes}
use Rattle.plans.specs.Checks.{see_guard, see_owner, see_after, see_before, see_join}
use Rattle.plans.specs.Allocate.{allocate_deed, allocate_script}
use Rattle.plans.specs.Deallocate.{deallocate_deed, deallocate_script}
use Rattle.plans.specs.Reallocate.{resize_script, reallocate_script}
use Rattle.plans.specs.Costs.{Small}
use Rattle.plans.proofs.Costs.{deallocate_costs, resize_small}
use Rattle.plans.specs.Lengths.{plan_length}

-- ---- the calls

-- 19 words
pub deallocate_writes : (n c q : ℕ) → Ends (λ (t : Plan). length (writes t) ≤ 19) (deallocate_script n c q)
unfolding deallocate_script
deallocate_writes n c q =
    ends_any _ (see_owner n q) _ λ o.
    ends_any _ (see_guard o.at) _ λ _.
    ends_any _ (see_after n c (o.at + o.grains)) _ λ b.
    ends_any _ (see_before n c o.at) _ λ a.
    ends_any _ (see_join n c (a + (o.grains + b))) _ λ _.
    let d = q - 2 * o.at in
    plan_length (deallocate_deed o.at o.grains d a b) 19 (omega (arith, deallocate_costs 4 5 o.at o.grains d a b, deallocate_length o.at o.grains d a b))

-- 35 words, beside what it moves
pub reallocate_writes : (n c q p a : ℕ) → Ends (λ (t : Plan). length (writes t) ≤ 35) (reallocate_script n c q p a)
unfolding reallocate_script
reallocate_writes n c q p a =
    ends_any _ (see_owner n q) _ λ o.
    ends_any _ (see_guard o.at) _ λ _.
    let d = q - 2 * o.at in
    ends_bind Small _ (resize_script n c q p a o.at o.grains d) _ (resize_small n c q p a o.at o.grains d) λ t h.
    plan_length t 35 (omega (arith, h.steps 4 5, h.guards, h.records))
