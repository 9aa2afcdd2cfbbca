-- What must be known before a block is taken (`CanTake`), and that it is known of one which a search found.
use Rattle.std.specs.Prelude.{ℕ, ◌<◌, ◌≡◌, List, [], length}
use Rattle.std.proofs.Common.{arith, ◌∙◌}
use Rattle.table.specs.Table.{entry}
use Rattle.definition.specs.Calls.{place, keeps}
use Rattle.invariants.proofs.Placing.{place_inside}
use Rattle.script.specs.Memory.{Memory}
use Rattle.script.specs.Script.{ok, no, run}
use Rattle.script.proofs.Script.{goes, halts}
use Rattle.machine.specs.Machine.{words, classes}
use Rattle.tags.proofs.Within.{allocate_field}
use Rattle.plans.specs.Allocate.{Taken, taken_steps, allocate_deed, see_taken, allocate_script}
use Rattle.plans.specs.Deeds.{plan_of}
use Rattle.plans.proofs.Planned.{plan_gives, taken_checked}
use Rattle.plans.proofs.StorableParts.{size_short}
use Rattle.plans.proofs.StorableCalls.{taken_fits, taken_ready}
use Rattle.lent.specs.Slices.{grains}
use Rattle.lent.proofs.Shown.{grains_below}
use Rattle.stamps.specs.Bounds.{CanAllocate}
use Rattle.stamps.specs.Stores.{tag_stores}
use Rattle.entries.specs.Answers.{held, Enough}
use Rattle.deeds.specs.Runs.{Runs, CanRun, can_any, shown_lists, runs_none}
use Rattle.deeds.specs.Maybe.{rest_blocks}
use Rattle.deeds.specs.Does.{Does}
use Rattle.deeds.specs.Done.{guard, deed_done}
use Rattle.hand_out.specs.Demand.{Demand}

-- t is to be taken for p half grains at a multiple of u
pub record CanTake (a l v : List ℕ) (p u : ℕ) (t : Taken) : Type 0 where
  pub steps : CanRun (taken_steps p u t) a l
  pub tags : CanAllocate v t.block t.grains (keeps (place u t.block) p) (place u t.block)
  pub inside : t.block < grains a

module _ (a l tags : List ℕ) (p u : ℕ) (t : Taken) where
  pub can_take : Enough a l tags → Demand p u → length a < words → ((i : ℕ) → entry l i < words) → run (held a l tags []) (see_taken (grains a) classes p u) ≡ ok t → CanTake a l tags p u t
  can_take e d w h r =
      let m = held a l tags [] in
      let c = taken_checked (grains a) classes p u m r in
      let fits = taken_fits (grains a) classes p u m d.align t c in
      record {
        steps = can_any (taken_steps p u t) a l tags [] (record {
          lists = e.lists;
          few = omega (arith, grains_below a w);
          blocks = (c.whole.starts.inside, rest_blocks (grains a) t.block t.grains (keeps (place u t.block) p));
          ready = taken_ready (grains a) classes p u m d.align t c words;
          shown = shown_lists a l tags [] h;
        });
        tags = record {
          some = c.whole.starts.some;
          inside = omega (arith, c.whole.ends, e.tags);
          counted = size_short classes t.grains c.whole.starts.some (omega (arith, c.class, c.small));
          fits = fits;
          within = (place_inside u t.block p d.align).within;
        };
        inside = c.whole.starts.inside;
      }

  -- the steps, the guard and the tags are all of the deed
  pub take_done : (b d b1 d1 v : List ℕ) → CanRun (taken_steps p u t) a l → Runs (taken_steps p u t) a l b1 d1 → b ≡ guard b1 t.block → d ≡ d1
      → v ≡ tag_stores tags (allocate_deed p u t).records → Does (allocate_deed p u t) a l tags b d v
  take_done b d b1 d1 v c r e f i = record {
    is = λ g. rw f (deed_done (allocate_deed p u t) a l tags g b1 d1 b1 d1 b v c r (runs_none b1 d1) e (allocate_field t.block t.grains (keeps (place u t.block) p) (place u t.block)) i);
  }

-- ---- the script of the call

module _ (m : Memory) (n c p u : ℕ) where
  pub taken_refused : (i : ℕ) → run m (see_taken n c p u) ≡ no i → run m (allocate_script n c p u) ≡ no i
  unfolding allocate_script
  taken_refused i h = halts m (see_taken n c p u) _ h

  pub taken_planned : (t : Taken) → run m (see_taken n c p u) ≡ ok t → run m (allocate_script n c p u) ≡ ok (plan_of m (allocate_deed p u t))
  unfolding allocate_script
  taken_planned t h = goes m (see_taken n c p u) _ h ∙ plan_gives m (allocate_deed p u t)
