-- reallocate: the payload at q gets p half grains, at a multiple of a if it moves. Four steps are tried in this order: the
-- block keeps its size; it stretches or shrinks in place; it moves down into a free block before it; it moves elsewhere.
use Rattle.std.specs.Prelude.{ℕ, ◌+◌, ◌-◌, ◌*◌, [], ◌∷◌, ◌++◌}
use Rattle.choice.specs.Choice.{if_eq, if_le}
use Rattle.definition.specs.Calls.{place, keeps}
use Rattle.script.specs.Script.{Script, done, ◌>>=◌, ◌>>◌}
use Rattle.tags.specs.Writes.{deallocate_tags, stretch_tags, down_tags}
use Rattle.plans.specs.Deeds.{Deed, Plan, plan_script}
use Rattle.plans.specs.Checks.{see_owner, see_guard, see_after, see_before, see_rest, see_join}
use Rattle.plans.specs.Allocate.{rest_steps, Taken, taken_steps, taken_tags, see_taken}
use Rattle.plans.specs.Deallocate.{leave_steps, beside_steps, join_steps}

-- Below, the block has s grains at x, and its payload's place in it is d; a grains are free before it, and b after it.

-- 1: nothing changes
abbrev pub stay_deed : ℕ → Deed
stay_deed q = record { answer = q; moved = 0; early = []; late = []; guards = []; records = [] }

-- 2: in place; the block keeps k grains
abbrev pub stretch_deed : ℕ → ℕ → ℕ → ℕ → ℕ → ℕ → Deed
stretch_deed q x s d b k = record {
  answer = q;
  moved = 0;
  early = leave_steps b (x + s) ++ rest_steps x (s + b) k;
  late = [];
  guards = [];
  records = stretch_tags x s d b k;
}

-- 3: down; the block starts at x - a afterwards and keeps k grains, and the payload's place in it is e
abbrev pub down_deed : ℕ → ℕ → ℕ → ℕ → ℕ → ℕ → ℕ → Deed
down_deed x s d a b k e = record {
  answer = 2 * (x - a) + e;
  moved = 2 * s - d;
  early = beside_steps x s a b;
  late = rest_steps (x - a) (a + (s + b)) k;
  guards = (x - a) ∷ [];
  records = down_tags x s d a b k e;
}

-- 4: elsewhere; t is taken
abbrev pub elsewhere_deed : ℕ → ℕ → ℕ → ℕ → ℕ → ℕ → ℕ → Taken → Deed
elsewhere_deed p m x s d a b t = record {
  answer = 2 * t.block + place m t.block;
  moved = 2 * s - d;
  early = beside_steps x s a b ++ taken_steps p m t;
  late = join_steps x s a b;
  guards = t.block ∷ [];
  records = taken_tags p m t ++ deallocate_tags x s d a b;
}

-- ---- the scripts: p half grains at a multiple of m

unfoldable pub elsewhere_script : ℕ → ℕ → ℕ → ℕ → ℕ → ℕ → ℕ → ℕ → ℕ → Script Deed
elsewhere_script n c p m x s d a b = do
  t ← see_taken n c p m
  see_join n c (a + (s + b))
  done (elsewhere_deed p m x s d a b t)

unfoldable pub down_script : ℕ → ℕ → ℕ → ℕ → ℕ → ℕ → ℕ → ℕ → ℕ → Script Deed
down_script n c p m x s d a b = if_le (keeps (place m (x - a)) p) (a + (s + b))
    (do
      see_rest n c (a + (s + b)) (keeps (place m (x - a)) p)
      done (down_deed x s d a b (keeps (place m (x - a)) p) (place m (x - a))))
    (elsewhere_script n c p m x s d a b)

unfoldable pub move_script : ℕ → ℕ → ℕ → ℕ → ℕ → ℕ → ℕ → ℕ → Script Deed
move_script n c p m x s d b = do
  a ← see_before n c x
  if_eq a 0 (elsewhere_script n c p m x s d 0 b) (down_script n c p m x s d a b)

unfoldable pub stretch_script : ℕ → ℕ → ℕ → ℕ → ℕ → ℕ → ℕ → ℕ → ℕ → Script Deed
stretch_script n c q p m x s d b = if_le (keeps d p) (s + b)
    (do
      see_rest n c (s + b) (keeps d p)
      done (stretch_deed q x s d b (keeps d p)))
    (move_script n c p m x s d b)

unfoldable pub resize_script : ℕ → ℕ → ℕ → ℕ → ℕ → ℕ → ℕ → ℕ → Script Deed
resize_script n c q p m x s d = if_eq (keeps d p) s (done (stay_deed q)) (do
  b ← see_after n c (x + s)
  stretch_script n c q p m x s d b)

unfoldable pub reallocate_script : ℕ → ℕ → ℕ → ℕ → ℕ → Script Plan
reallocate_script n c q p m = do
  o ← see_owner n q
  see_guard o.at
  t ← resize_script n c q p m o.at o.grains (q - 2 * o.at)
  plan_script t
