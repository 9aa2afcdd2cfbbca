-- `reallocate::move_payload`: refused as the slide is, or it is made; else all hangs on the move elsewhere.
use Prim.Native.Nat.{◌+◌, ◌-◌, ◌*◌}
use native.Mathlib.Omega.{arith}
use Rattle.std.proofs.lemmas.Result.{err_from_is_err_and}
use Rattle.std.specs.Prelude.{Some, Ok}
use Rattle.header.specs.Turned.{grains_few}
use Rattle.slide.specs.Shown.{Slides}
use Rattle.reallocate.specs.Slid.{slide_ready, moves_refused, moves_down}
use Rattle.reallocate.proofs.move_payload.Goals as goal
use Rattle.reallocate.proofs.move_payload.Goals.{In-Some}

-- a slide that was planned
slides : (c : In-Some) → let s = c.args in Slides s.a.now s.lists.now s.x s.s s.behind s.length s.multiple (Ok (Some c.in-Some.p))
slides c = rw c.in-Some.is at c.in_ok-planned.ensures

pub returns-in_err-planned : goal.returns-in_err-planned
returns-in_err-planned c =
    let s = c.args in
    let p = err_from_is_err_and c.from_residual.result c.from_residual.ensures.1 in
    rw (p.1, p.2) (moves_refused s.a.now s.lists.now s.live.now s.q s.x s.s s.behind s.length s.multiple c.in_err-planned.field-0.0 c.in_err-planned.ensures)

pub overflow_mul-u : goal.overflow_mul-u
overflow_mul-u c =
    omega (arith, c.requires.2.inside, grains_few c.args.a.now c.well_formed.0.0)

pub slide_down-requires : goal.slide_down-requires
slide_down-requires c =
    let s = c.args in
    slide_ready s.a.now s.lists.now s.live.now s.q (2 * (s.x + s.s) - s.q) s.length c.in-Some.p c.requires.1 (slides (goal.at.slide_down-requires c).In-Some).able c.requires.3
    (omega (arith, c.requires.4, c.requires.2.inside)) (omega (arith, c.requires.5))

pub overflow_mul-to : goal.overflow_mul-to
overflow_mul-to c =
    omega (arith, (slides (goal.at.overflow_mul-to c).In-Some).able.makeable.inside, grains_few c.args.a.now c.well_formed.0.0)

pub overflow_add-to : goal.overflow_add-to
overflow_add-to c =
    omega (arith, (slides (goal.at.overflow_add-to c).In-Some).able.makeable.pad, grains_few c.args.a.now c.well_formed.0.0)

pub returns : goal.returns
returns c =
    let s = c.args in
    moves_down s.a.now s.lists.now s.live.now s.q s.x s.s s.behind s.length s.multiple _ _ _ c.in-Some.p (slides (goal.at.returns c).In-Some) c.slide_down.ensures
