-- `slide::plan_down`: what the block keeps; the joined block is too small, or the rest decides.
use native.Mathlib.Omega.{arith}
use Rattle.std.proofs.lemmas.Result.{err_from_is_err_and}
use Rattle.slide.specs.Steps.{down_short, down_damaged, down_made}
use Rattle.slide.proofs.plan_down.Goals as goal

pub returns-then-t-keep : goal.returns-then-t-keep
returns-then-t-keep c =
    let s = c.args in
    down_short s.a.now s.lists.now s.z s.t s.behind s.before s.place s.length c.keeps_of-keep.result c.keeps_of-keep.ensures c.if-t-keep.true

pub returns-in_err-rest : goal.returns-in_err-rest
returns-in_err-rest c =
    let s = c.args in
    let p = err_from_is_err_and c.from_residual.result c.from_residual.ensures.1 in
    rw (p.1, p.2) (down_damaged s.a.now s.lists.now s.z s.t s.behind s.before s.place s.length c.keeps_of-keep.result c.keeps_of-keep.ensures
    (omega (arith, c.if-t-keep.false)) c.in_err-rest.field-0.0 c.in_err-rest.ensures)

pub returns : goal.returns
returns c =
    let s = c.args in
    down_made s.a.now s.lists.now s.z s.t s.behind s.before s.place s.length c.keeps_of-keep.result c.keeps_of-keep.ensures
    (omega (arith, c.if-t-keep.false)) c.in_ok-rest.rest c.in_ok-rest.ensures c.requires.4 c.requires.0 c.requires.1 c.requires.2
