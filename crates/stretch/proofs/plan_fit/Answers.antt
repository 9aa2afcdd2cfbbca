-- `stretch::plan_fit`: both together are too small, or nothing is left over; else the list of what is left is known, or there is
-- none, and its head is the one that stands there when the neighbour left.
use native.Mathlib.Omega.{arith}
use Rattle.std.proofs.lemmas.Result.{err_from_is_err_and}
use Rattle.header.specs.Turned.{grains_few}
use Rattle.stretch.specs.Steps.{fit_short, fit_whole, fit_unlisted, fit_headless, fit_listed}
use Rattle.stretch.proofs.plan_fit.Goals as goal

pub overflow_add-t : goal.overflow_add-t
overflow_add-t c =
    omega (arith, c.requires.0.inside, c.grains_of.ensures, grains_few c.args.a.now c.well_formed.0.0)

pub returns-then-t-keep : goal.returns-then-t-keep
returns-then-t-keep c =
    let s = c.args in
    fit_short s.a.now s.lists.now s.x s.s s.keep s.behind c.requires.0 (rw c.grains_of.ensures at c.if-t-keep.true)

pub returns-then-keep-t : goal.returns-then-keep-t
returns-then-keep-t c =
    let s = c.args in
    fit_whole s.a.now s.lists.now s.x s.s s.keep s.behind c.requires.0 (rw c.grains_of.ensures at c.if-keep-t.true)

pub map_floor-list-requires : goal.map_floor-list-requires
map_floor-list-requires c =
    (omega (arith, c.if-keep-t.false, c.if-t-keep.false), omega (arith, c.requires.0.inside, c.grains_of.ensures, grains_few c.args.a.now c.well_formed.0.0))

pub returns-then-list-ge-LISTS : goal.returns-then-list-ge-LISTS
returns-then-list-ge-LISTS c =
    let s = c.args in
    fit_unlisted s.a.now s.lists.now s.x s.s s.keep s.behind c.requires.0 (omega (arith, c.if-t-keep.false, c.grains_of.ensures)) (rw c.grains_of.ensures at c.if-keep-t.false)
    c.map_floor-list.result (rw c.grains_of.ensures at c.map_floor-list.ensures) c.if-list-ge-LISTS.true

pub returns-in_err-h : goal.returns-in_err-h
returns-in_err-h c =
    let s = c.args in
    let p = err_from_is_err_and c.from_residual.result c.from_residual.ensures.1 in
    rw (p.1, p.2)
    (fit_headless s.a.now s.lists.now s.x s.s s.keep s.behind c.requires.0 (omega (arith, c.if-t-keep.false, c.grains_of.ensures)) (rw c.grains_of.ensures at c.if-keep-t.false)
    c.map_floor-list.result (rw c.grains_of.ensures at c.map_floor-list.ensures) c.if-list-ge-LISTS.false c.in_err-h.field-0.0 c.in_err-h.ensures)

pub returns : goal.returns
returns c =
    let s = c.args in
    rw c.head_after-head.ensures
    (fit_listed s.a.now s.lists.now s.x s.s s.keep s.behind c.requires.0 (omega (arith, c.if-t-keep.false, c.grains_of.ensures)) (rw c.grains_of.ensures at c.if-keep-t.false)
    c.map_floor-list.result (rw c.grains_of.ensures at c.map_floor-list.ensures) c.if-list-ge-LISTS.false c.well_formed.0.0 c.in_ok-h.h c.in_ok-h.ensures)
