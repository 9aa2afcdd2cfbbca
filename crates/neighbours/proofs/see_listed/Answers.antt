-- `neighbours::see_listed`: the list of the size is known, or there is none, and the list says the rest.
use native.Mathlib.Omega.{arith}
use Rattle.std.proofs.lemmas.Result.{err_from_is_err_and}
use Rattle.header.specs.Turned.{grains_few}
use Rattle.neighbours.specs.Beside.{listed_none, listed_refused, listed_found}
use Rattle.neighbours.proofs.see_listed.Goals as goal

pub map_floor-list-requires : goal.map_floor-list-requires
map_floor-list-requires c =
    (c.requires.2, omega (arith, grains_few c.args.a.now c.well_formed.0.0))

pub returns-then-list-ge-LISTS : goal.returns-then-list-ge-LISTS
returns-then-list-ge-LISTS c =
    let s = c.args in
    listed_none s.a.now s.lists.now s.t s.y c.map_floor-list.result c.map_floor-list.ensures c.if-list-ge-LISTS.true

pub returns-in_err-e : goal.returns-in_err-e
returns-in_err-e c =
    let s = c.args in
    let p = err_from_is_err_and c.from_residual.result c.from_residual.ensures.1 in
    rw (p.1, p.2) (listed_refused s.a.now s.lists.now s.t s.y c.map_floor-list.result c.map_floor-list.ensures c.if-list-ge-LISTS.false c.in_err-e.field-0.0 c.in_err-e.ensures.0)

pub returns : goal.returns
returns c =
    let s = c.args in
    listed_found s.a.now s.lists.now s.t s.y c.map_floor-list.result c.map_floor-list.ensures c.if-list-ge-LISTS.false c.in_ok-e.e c.in_ok-e.ensures.0 c.in_ok-e.ensures.1
