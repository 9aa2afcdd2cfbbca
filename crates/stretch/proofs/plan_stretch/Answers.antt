-- `stretch::plan_stretch`: nothing to do, or all hangs on what stands behind the block.
use native.Mathlib.Omega.{arith}
use Rattle.std.proofs.lemmas.Result.{err_from_is_err_and}
use Rattle.header.specs.Turned.{grains_few}
use Rattle.neighbours.specs.Within.{behind_seen}
use Rattle.stretch.specs.Steps.{plan_same, plan_damaged, plan_fit}
use Rattle.stretch.proofs.plan_stretch.Goals as goal

pub returns-then-keep-s : goal.returns-then-keep-s
returns-then-keep-s c =
    let s = c.args in
    plan_same s.a.now s.lists.now s.x s.s s.keep c.if-keep-s.true

pub overflow_add-x : goal.overflow_add-x
overflow_add-x c =
    omega (arith, c.requires.0, grains_few c.args.a.now c.well_formed.0.0)

pub returns-in_err-behind : goal.returns-in_err-behind
returns-in_err-behind c =
    let s = c.args in
    let p = err_from_is_err_and c.from_residual.result c.from_residual.ensures.1 in
    rw (p.1, p.2) (plan_damaged s.a.now s.lists.now s.x s.s s.keep c.if-keep-s.false c.in_err-behind.field-0.0 c.in_err-behind.ensures)

pub plan_fit-requires : goal.plan_fit-requires
plan_fit-requires c =
    (behind_seen c.args.a.now c.args.lists.now c.args.x c.args.s c.in_ok-behind.behind c.in_ok-behind.ensures c.well_formed.0.0 c.requires.0, c.requires.1)

pub returns : goal.returns
returns c =
    let s = c.args in
    plan_fit s.a.now s.lists.now s.x s.s s.keep c.if-keep-s.false c.in_ok-behind.behind c.in_ok-behind.ensures c.plan_fit.result c.plan_fit.ensures
