-- `slide::see_rest`: nothing is left over; or the list of what is left is known, or there is none, and its head is the one
-- that stands there when both neighbours left.
use Rattle.std.proofs.lemmas.Result.{err_from_is_err_and}
use Rattle.slide.specs.Steps.{rest_nothing, rest_unlisted, rest_headless, rest_headed}
use Rattle.slide.proofs.see_rest.Goals as goal

pub returns-then-keep-t : goal.returns-then-keep-t
returns-then-keep-t c =
    let s = c.args in
    rest_nothing s.a.now s.lists.now s.t s.keep s.behind s.before c.if-keep-t.true

pub returns-then-list-ge-LISTS : goal.returns-then-list-ge-LISTS
returns-then-list-ge-LISTS c =
    let s = c.args in
    rest_unlisted s.a.now s.lists.now s.t s.keep s.behind s.before c.if-keep-t.false c.map_floor-list.result c.map_floor-list.ensures c.if-list-ge-LISTS.true

pub returns-in_err-h : goal.returns-in_err-h
returns-in_err-h c =
    let s = c.args in
    let p = err_from_is_err_and c.from_residual.result c.from_residual.ensures.1 in
    rw (p.1, p.2) (rest_headless s.a.now s.lists.now s.t s.keep s.behind s.before c.if-keep-t.false c.map_floor-list.result c.map_floor-list.ensures
    c.if-list-ge-LISTS.false c.in_err-h.field-0.0 c.in_err-h.ensures)

pub returns : goal.returns
returns c =
    let s = c.args in
    rw c.head_after_both-head.ensures (rest_headed s.a.now s.lists.now s.t s.keep s.behind s.before c.if-keep-t.false c.map_floor-list.result c.map_floor-list.ensures
    c.if-list-ge-LISTS.false c.well_formed.0.0 c.requires.2 c.requires.3 c.in_ok-h.h c.in_ok-h.ensures)
