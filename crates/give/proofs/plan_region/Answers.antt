-- `give::plan_region` meets its contract: refused as the table refuses it, or all hangs on the layout. Assumes nothing.
use Rattle.std.proofs.lemmas.Result.{err_from_is_err_and}
use Rattle.give.specs.Whole.{region_refused, region_planned}
use Rattle.give.proofs.plan_region.Goals as goal

pub returns-in_err-admit : goal.returns-in_err-admit
returns-in_err-admit c =
    let s = c.args in
    let p = err_from_is_err_and c.from_residual.result c.from_residual.ensures.1 in
    rw (p.1, p.2) (region_refused s.a.now s.lists.now s.regions.now s.behind s.g s.len c.in_err-admit.field-0.0 (rw (← c.count.ensures) c.in_err-admit.ensures))

pub returns-then-len-lt-PIECE : goal.returns-then-len-lt-PIECE
returns-then-len-lt-PIECE c =
    let s = c.args in
    region_planned s.a.now s.lists.now s.regions.now s.behind s.g s.len (rw (← c.count.ensures) c.in_ok-admit.ensures) c.plan_one.result c.plan_one.ensures

pub returns : goal.returns
returns c =
    let s = c.args in
    region_planned s.a.now s.lists.now s.regions.now s.behind s.g s.len (rw (← c.count.ensures) c.in_ok-admit.ensures) c.plan_row.result c.plan_row.ensures
