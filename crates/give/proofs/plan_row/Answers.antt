-- `give::plan_row` meets its contract: the head of the full pieces' list decides, and then that of the last piece's list, if
-- there is a last piece. Assumes nothing.
use native.Mathlib.Omega.{arith}
use Rattle.std.specs.Prelude.{Ok, Err}
use Rattle.std.proofs.lemmas.Result.{err_from_is_err_and}
use Rattle.give.specs.Planned.{seen_as, row_refused, row_planned, last_damaged, last_planned}
use Rattle.give.proofs.plan_row.Goals as goal

pub returns-in_err-h : goal.returns-in_err-h
returns-in_err-h c =
    let p = err_from_is_err_and c.from_residual.result c.from_residual.ensures.1 in
    rw (p.1, p.2) (row_refused c.args.a.now c.args.lists.now c.args.g c.args.len c.well_formed.0.0 c.requires.0 c.requires.1 c.requires.2
    c.in_err-h.field-0.0 (seen_as c.args.a.now c.args.lists.now c.list_of.ensures.0 (Err c.in_err-h.field-0.0) c.in_err-h.ensures))

pub returns-then-rest-lt2 : goal.returns-then-rest-lt2
returns-then-rest-lt2 c =
    row_planned c.args.a.now c.args.lists.now c.args.g c.args.len c.well_formed.0.0 c.requires.0 c.requires.1 c.requires.2
    c.in_ok-h.h (seen_as c.args.a.now c.args.lists.now c.list_of.ensures.0 (Ok c.in_ok-h.h) c.in_ok-h.ensures) _ _ (omega arith) (omega arith)

pub returns-in_err-head : goal.returns-in_err-head
returns-in_err-head c =
    let p = err_from_is_err_and c.from_residual-in_err-head.result c.from_residual-in_err-head.ensures.1 in
    rw (p.1, p.2) (last_damaged c.args.a.now c.args.lists.now c.args.g c.args.len c.well_formed.0.0 c.requires.0 c.requires.1 c.requires.2
    c.in_ok-h.h (seen_as c.args.a.now c.args.lists.now c.list_of.ensures.0 (Ok c.in_ok-h.h) c.in_ok-h.ensures) _ _ (omega arith) (omega arith) (omega arith)
    c.in_err-head.field-0.0 c.in_err-head.ensures)

pub returns : goal.returns
returns c =
    last_planned c.args.a.now c.args.lists.now c.args.g c.args.len c.well_formed.0.0 c.requires.0 c.requires.1 c.requires.2
    c.in_ok-h.h (seen_as c.args.a.now c.args.lists.now c.list_of.ensures.0 (Ok c.in_ok-h.h) c.in_ok-h.ensures) _ _ (omega arith) (omega arith) (omega arith)
    c.in_ok-head.head c.in_ok-head.ensures
