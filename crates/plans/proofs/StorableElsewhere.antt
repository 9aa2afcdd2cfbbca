-- What follows from specs/StorableResize.antt.
use Rattle.std.specs.Prelude.{ℕ, ◌+◌, ◌-◌, ◌*◌, ◌≤◌, ◌<◌, ◌≡◌}
use native.Mathlib.Omega.{arith}
use Rattle.std.proofs.Math.Path.{subst}
use mathlib.Core.List.{◌++◌}
use Rattle.invariants.specs.Order.{Inside}
use Rattle.invariants.specs.Placing.{Align}
use Rattle.script.specs.Memory.{Memory}
use Rattle.script.specs.Script.{Gives}
use Rattle.script.proofs.Script.{inv_bind, inv_done}
use Rattle.tags.proofs.Each.{each_append}
use Rattle.tags.specs.Writes.{deallocate_tags}
use Rattle.chains.specs.Closed.{Ready}
use Rattle.chains.proofs.Closed.{ready_append}
use Rattle.plans.specs.Deeds.{Deed}
use Rattle.plans.specs.Checks.{see_join}
use Rattle.plans.proofs.Planned.{taken_checked}
use Rattle.plans.specs.Allocate.{taken_steps, taken_tags, see_taken}
use Rattle.plans.specs.Deallocate.{leave_steps, beside_steps, join_steps}
use Rattle.plans.specs.Reallocate.{elsewhere_script}
use Rattle.plans.specs.Storable.{Storable}
use Rattle.plans.specs.StorableParts.{bounds, Bounded}
use Rattle.plans.proofs.StorableParts.{beside_ready, join_ready}
use Rattle.plans.proofs.StorableCalls.{taken_inside, taken_ready, taken_tags_lem, freed_tags}
use Rattle.plans.specs.StorableResize.{Placed}

pub record Resized (n c top most : ℕ) (m : Memory) (q p : ℕ) (t : Deed) : Type 0 where
  pub bounded : Bounded n c top most m t
  pub placed : Placed n q p t.answer t.moved

module _ (n c top most q p al : ℕ) (m : Memory) (good : Align al) where
  -- the block of the payload: s grains at x, with b free grains after it; the payload's place in it is d
  module _ (x s d b : ℕ) (at : 2 * x + d ≡ q) (some : 1 ≤ s) (i : Inside s d) (end : x + s + b < n) (ub : Ready (bounds n c top) m (leave_steps b (x + s))) where
    -- 4: elsewhere; less is moved than is asked for
    pub elsewhere_bounded : (a : ℕ) (t : Deed) → 2 * s < d + p → a ≤ x → Ready (bounds n c top) m (leave_steps a (x - a)) → Gives m (elsewhere_script n c p al x s d a b) t
        → Resized n c top most m q p t
    unfolding elsewhere_script
    elsewhere_bounded a t less l ua g =
        let j = inv_bind m (see_taken n c p al) _ g in
        let v = j.0 in
        let k = inv_bind m (see_join n c (a + (s + b))) _ j.2 in
        let w = join_ready n c top m (x - a) (a + (s + b)) (omega arith) (omega arith) k.1 in
        let f = taken_checked n c p al m j.1 in
        let z = taken_inside n c p al m good v f in
        subst (Resized n c top most m q p) (inv_done m _ t k.2) (record {
          bounded = record {
            steps = ready_append (bounds n c top) m (beside_steps x s a b ++ taken_steps p al v) (join_steps x s a b)
                (ready_append (bounds n c top) m (beside_steps x s a b) (taken_steps p al v) (beside_ready n c top m x s a b ub ua) (taken_ready n c p al m good v f top)) w.1;
            guards = (f.whole.starts.inside, tt);
            records = each_append (Storable n c top most) (taken_tags p al v) (deallocate_tags x s d a b) (taken_tags_lem n c p al m good v f top most)
                (freed_tags n c top most x s d a b some i end l w.0);
          };
          placed = record { inside = z; from = omega (arith, i.within); to = omega (arith, z) };
        })
