-- `give::plan_one` meets its contract: the head of the piece's list decides. Assumes nothing.
use Rattle.std.specs.Prelude.{Ok, Err}
use Rattle.std.proofs.lemmas.Result.{err_from_is_err_and}
use Rattle.give.specs.Planned.{seen_as, one_refused, one_planned}
use Rattle.give.proofs.plan_one.Goals as goal

pub returns-in_err-head : goal.returns-in_err-head
returns-in_err-head c =
    let p = err_from_is_err_and c.from_residual.result c.from_residual.ensures.1 in
    rw (p.1, p.2) (one_refused c.args.a.now c.args.lists.now c.args.g c.args.len c.well_formed.0.0 c.requires.0 c.requires.1 c.requires.2 c.requires.3
    c.in_err-head.field-0.0 (seen_as c.args.a.now c.args.lists.now c.list_of.ensures.0 (Err c.in_err-head.field-0.0) c.in_err-head.ensures))

pub returns : goal.returns
returns c =
    one_planned c.args.a.now c.args.lists.now c.args.g c.args.len c.well_formed.0.0 c.requires.0 c.requires.1 c.requires.2 c.requires.3
    c.in_ok-head.head (seen_as c.args.a.now c.args.lists.now c.list_of.ensures.0 (Ok c.in_ok-head.head) c.in_ok-head.ensures)
