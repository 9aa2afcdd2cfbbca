-- `deallocate::plan_behind`: what stands behind the block agrees, or the call is refused; all else hangs on what stands there.
use native.Mathlib.Omega.{arith}
use mathlib.Core.Path.{◌∙◌}
use Rattle.std.specs.Prelude.{Some, None}
use Rattle.std.proofs.lemmas.Result.{err_from_is_err_and}
use Rattle.header.specs.Turned.{grains_few}
use Rattle.neighbours.specs.Within.{behind_seen}
use Rattle.deallocate.specs.Join.{merge_out, merge_seen}
use Rattle.deallocate.proofs.plan_behind.Goals as goal

pub overflow_add-x : goal.overflow_add-x
overflow_add-x c = omega (arith, c.requires.1, grains_few c.args.a.now c.well_formed.0.0)

pub returns-in_err-see_behind : goal.returns-in_err-see_behind
returns-in_err-see_behind c =
    let s = c.args in
    let p = err_from_is_err_and c.from_residual.result c.from_residual.ensures.1 in
    rw (p.1, p.2) (record { answer = λ q v t. merge_out s.a.now s.lists.now v t q s.x s.s c.in_err-see_behind.field-0.0 c.in_err-see_behind.ensures; able = tt })

pub returns-in-None : goal.returns-in-None
returns-in-None c =
    let s = c.args in record {
      answer = λ q v t. c.plan_both.ensures.answer q v t ∙ merge_seen s.a.now s.lists.now v t q s.x s.s None (rw c.in-None.is at c.in_ok-see_behind.ensures);
      able = c.plan_both.ensures.able;
    }

pub plan_both-requires-in-Some : goal.plan_both-requires-in-Some
plan_both-requires-in-Some c =
    let s = c.args in
    (c.requires.0, behind_seen s.a.now s.lists.now s.x s.s (Some c.in-Some.e) (rw c.in-Some.is at c.in_ok-see_behind.ensures) c.well_formed.0.0 c.requires.1, c.requires.2, c.requires.3)

pub returns-in-Some : goal.returns-in-Some
returns-in-Some c =
    let s = c.args in record {
      answer = λ q v t. c.plan_both-in-Some.ensures.answer q v t ∙ merge_seen s.a.now s.lists.now v t q s.x s.s (Some c.in-Some.e) (rw c.in-Some.is at c.in_ok-see_behind.ensures);
      able = c.plan_both-in-Some.ensures.able;
    }
