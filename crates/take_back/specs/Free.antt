-- What must be known before a block is freed (`CanFree`), and that it is known of one which the checks found.
use Rattle.std.specs.Prelude.{ℕ, ◌+◌, ◌-◌, ◌*◌, ◌≤◌, ◌<◌, ◌≡◌, refl, length}
use Rattle.std.proofs.Common.{arith}
use Rattle.std.proofs.Math.Path.{subst}
use mathlib.Core.List.{List, [], ◌++◌}
use Rattle.table.specs.Table.{entry}
use Rattle.script.specs.Script.{ok, run}
use Rattle.script.proofs.Script.{inv_bind, inv_done}
use Rattle.machine.specs.Machine.{words, classes, piece}
use Rattle.chains.specs.Steps.{Step}
use Rattle.chains.specs.Closed.{Ready}
use Rattle.chains.proofs.Closed.{ready_append}
use Rattle.tags.proofs.Within.{deallocate_field}
use Rattle.plans.specs.Checks.{see_owner, see_guard, see_after, see_before, see_join}
use Rattle.plans.proofs.Checked.{owner_checked}
use Rattle.plans.specs.Deallocate.{leave_steps, beside_steps, join_steps}
use Rattle.plans.specs.StorableParts.{bounds}
use Rattle.plans.proofs.StorableParts.{after_ready, before_ready, beside_ready, join_ready}
use Rattle.plans.proofs.StorableCalls.{owner_inside}
use Rattle.lent.specs.Slices.{grains}
use Rattle.lent.proofs.Shown.{grains_below}
use Rattle.stamps.specs.Bounds.{CanDeallocate}
use Rattle.stamps.specs.Stores.{tag_stores}
use Rattle.entries.specs.Answers.{held, Enough}
use Rattle.deeds.specs.Runs.{Runs, CanRun, blocks_append, can_any, shown_lists, run_left}
use Rattle.deeds.specs.Maybe.{leave_blocks}
use Rattle.deeds.specs.Does.{Does}
use Rattle.deeds.specs.Done.{deed_done}
use Rattle.take_back.specs.Returned.{Freed, freed_deed, joined, sides, see_returned}

-- all steps: the neighbours leave, and the block enters a list with them
abbrev pub freed_steps : Freed → List Step
freed_steps f = beside_steps f.at f.grains f.before f.after ++ join_steps f.at f.grains f.before f.after

pub record CanFree (a l v : List ℕ) (q : ℕ) (f : Freed) : Type 0 where
  pub steps : CanRun (freed_steps f) a l
  pub tags : CanDeallocate v f.at f.grains (q - 2 * f.at) f.before f.after
  pub starts : 2 * f.at ≤ q
  pub ends : f.at + f.grains < grains a

module _ (a l v : List ℕ) (q : ℕ) (e : Enough a l v) (w : length a < words) (h : (i : ℕ) → entry l i < words) where
  can : (x s b d : ℕ) → 1 ≤ s → 2 * x ≤ q → q - 2 * x ≤ 2 * s → x + s + b < grains a → d ≤ x → d + (s + b) < piece
      → Ready (bounds (grains a) classes words) (held a l v []) (beside_steps x s d b ++ join_steps x s d b) → CanFree a l v q (record { at = x; grains = s; before = d; after = b })
  can x s b d some starts within ends before small ready = record {
    steps = can_any (beside_steps x s d b ++ join_steps x s d b) a l v [] (record {
      lists = e.lists;
      few = omega (arith, grains_below a w);
      blocks = blocks_append (grains a) (beside_steps x s d b) (join_steps x s d b)
          (blocks_append (grains a) (leave_steps b (x + s)) (leave_steps d (x - d)) (leave_blocks (grains a) b (x + s) (omega arith)) (leave_blocks (grains a) d (x - d) (omega arith))) tt;
      ready = ready;
      shown = shown_lists a l v [] h;
    });
    tags = record { some = some; before = before; inside = omega (arith, e.tags); counted = small; within = within };
    starts = starts;
    ends = omega arith;
  }

  pub can_free : (f : Freed) → run (held a l v []) (see_returned (grains a) classes q) ≡ ok f → CanFree a l v q f
  unfolding see_returned sides joined
  can_free f r =
      let m = held a l v [] in
      let n = grains a in
      let i1 = inv_bind m (see_owner n q) _ r in
      let x = i1.0.at in
      let s = i1.0.grains in
      let o = owner_checked m n q i1.1 in
      let p = owner_inside m n q i1.0 o in
      let i2 = inv_bind m (see_guard x) _ i1.2 in
      let i3 = inv_bind m (see_after n classes (x + s)) _ i2.2 in
      let i4 = inv_bind m (see_before n classes x) _ i3.2 in
      let b = i3.0 in
      let d = i4.0 in
      let i5 = inv_bind m (see_join n classes (d + (s + b))) _ i4.2 in
      let u = after_ready n classes words m (x + s) i3.1 in
      let z = before_ready n classes words m x (omega (arith, o.ends)) i4.1 in
      let j = join_ready n classes words m (x - d) (d + (s + b)) (omega (arith, o.some)) (omega (arith, z.0, u.0, o.some)) i5.1 in
      subst (CanFree a l v q) (inv_done m _ f i5.2)
      (can x s b d o.some p.0 p.1.within u.0 z.0 j.0
      (ready_append (bounds n classes words) m (beside_steps x s d b) (join_steps x s d b) (beside_ready n classes words m x s d b u.1 z.1) j.1))

-- the steps and the tags are all of the deed
pub free_done : (a l v : List ℕ) (q : ℕ) (f : Freed) (b1 d1 b d u : List ℕ) → CanRun (freed_steps f) a l → Runs (freed_deed q f).early a l b1 d1 → Runs (freed_deed q f).late b1 d1 b d
    → u ≡ tag_stores v (freed_deed q f).records → Does (freed_deed q f) a l v b d u
free_done a l v q f b1 d1 b d u c r1 r2 i = record {
  is = λ g. deed_done (freed_deed q f) a l v g b1 d1 b d b u (run_left (freed_deed q f).early (freed_deed q f).late a l [] [] c) r1 r2 refl
      (deallocate_field f.at f.grains (q - 2 * f.at) f.before f.after) i;
}
