-- `deallocate::plan_both`: the block before is planned as it will be when the one behind left.
use Prim.Native.Nat.{◌≤◌}
use native.Mathlib.Omega.{arith}
use mathlib.Core.Path.{◌∙◌}
use Rattle.std.specs.Prelude.{Some}
use Rattle.header.specs.Turned.{grains_few}
use Rattle.neighbours.specs.Leaving.{Linked}
use Rattle.neighbours.specs.Within.{before_within, known_second, second_stands}
use Rattle.deallocate.specs.Shown.{standing}
use Rattle.deallocate.specs.Join.{before_joined, before_alone}
use Rattle.deallocate.proofs.plan_both.Goals as goal
use Rattle.deallocate.proofs.plan_both.Goals.{In-Some}

-- the neighbour before starts in the arena
before : (c : In-Some) → let s = c.args in (c.in-Some.n.grains ≤ s.x) × Linked s.a.now c.in-Some.n
before c = let s = c.args in before_within s.a.now s.lists.now c.well_formed.0.0 s.x (Some c.in-Some.n) (rw c.in-Some.is at c.requires.3)

pub overflow_add-t : goal.overflow_add-t
overflow_add-t c = omega (arith, c.requires.1.inside, c.grains_of.ensures, grains_few c.args.a.now c.well_formed.0.0)

pub returns-in_default : goal.returns-in_default
returns-in_default c =
    let s = c.args in
    let k = rw c.grains_of.ensures at c.plan_join.ensures in record {
      answer = λ q v t. k.answer q v t ∙ before_alone s.a.now s.lists.now v t q s.x s.s s.behind c.requires.1 (rw c.in_default.is at c.requires.3);
      able = k.able;
    }

pub overflow_sub-z : goal.overflow_sub-z
overflow_sub-z c = (before (goal.at.overflow_sub-z c).In-Some).0

pub second-before-requires : goal.second-before-requires
second-before-requires c = omega (arith, c.requires.1.inside, grains_few c.args.a.now c.well_formed.0.0)

pub overflow_add-n : goal.overflow_add-n
overflow_add-n c =
    omega (arith, (before (goal.at.overflow_add-n c).In-Some).0, c.requires.1.inside, c.grains_of.ensures, grains_few c.args.a.now c.well_formed.0.0)

pub plan_join-requires-2 : goal.plan_join-requires-2
plan_join-requires-2 c =
    let a = c.args.a.now in
    let e = c.args.behind in
    let b = before (goal.at.plan_join-requires-2 c).In-Some in
    let f = c.in-Some.n in (
      omega (arith, c.requires.0),
      omega (arith, b.0, c.requires.1.inside, c.grains_of.ensures),
      c.requires.2,
      c.requires.1.known,
      rw c.second-before.ensures (known_second a e f _ c.requires.1.known b.1),
      standing a c.args.x c.args.s _ _ e (Some c.second-before.result) c.requires.1 (omega arith) (omega (arith, b.0, c.grains_of.ensures))
          (rw c.second-before.ensures (second_stands a e f _ _ (rw c.in-Some.is at c.requires.3).block.links)),
    )

pub returns : goal.returns
returns c =
    let s = c.args in
    let k = rw (c.grains_of.ensures, c.second-before.ensures) at c.plan_join-2.ensures in record {
      answer = λ q v t. k.answer q v t ∙ before_joined s.a.now s.lists.now v t q s.x s.s s.behind c.requires.1 c.in-Some.n (rw c.in-Some.is at c.requires.3) c.well_formed.0.0;
      able = k.able;
    }
