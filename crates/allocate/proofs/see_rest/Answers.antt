-- `allocate::see_rest`: nothing is left, or the rest has a list, since the whole has one.
use Prim.Native.Nat.{◌<◌}
use native.Mathlib.Omega.{arith}
use Rattle.std.proofs.lemmas.Result.{err_from_is_err_and}
use Rattle.allocate.specs.Rest.{rest_listed, rest_none, rest_damaged, rest_some}
use Rattle.allocate.proofs.see_rest.Goals as goal
use Rattle.allocate.proofs.see_rest.Goals.{After-map_floor-list}

pub returns-then-keep-grains : goal.returns-then-keep-grains
returns-then-keep-grains c =
    rest_none c.args.a.now c.args.lists.now c.args.k c.args.next c.args.grains c.args.keep c.if-keep-grains.true

-- the rest's list is a list
listed : (c : After-map_floor-list) → c.map_floor-list.result < 192
listed c =
    omega (arith, c.map_floor-list.ensures, rest_listed c.args.grains c.args.keep c.args.k c.requires.2 c.if-keep-grains.false c.requires.1 c.requires.0.known)

pub see_head-requires : goal.see_head-requires
see_head-requires c = record { known = listed (goal.at.see_head-requires c).After-map_floor-list; room = c.requires.0.room }

pub returns-in_err-head : goal.returns-in_err-head
returns-in_err-head c =
    let p = err_from_is_err_and c.from_residual.result c.from_residual.ensures.1 in
    rw (p.1, p.2) (rest_damaged c.args.a.now c.args.lists.now c.args.k c.args.next c.args.grains c.args.keep c.map_floor-list.result c.if-keep-grains.false c.map_floor-list.ensures (listed (goal.at.returns-in_err-head c).After-map_floor-list)
    c.in_err-head.field-0.0 c.in_err-head.ensures)

pub returns : goal.returns
returns c =
    rest_some c.args.a.now c.args.lists.now c.args.k c.args.next c.args.grains c.args.keep c.map_floor-list.result c.if-keep-grains.false c.map_floor-list.ensures (listed (goal.at.returns c).After-map_floor-list)
    c.in_ok-head.head c.head_after.result c.well_formed.0.0 c.in_ok-head.ensures c.head_after.ensures
