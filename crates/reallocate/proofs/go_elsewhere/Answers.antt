-- `reallocate::go_elsewhere`: refused as the take is, or the take is saved and written, and then all hangs on leaving the
-- old block.
use native.Mathlib.Omega.{arith}
use Rattle.std.proofs.lemmas.Result.{err_from_is_err_and}
use Rattle.header.specs.Turned.{grains_few}
use Rattle.occupy.specs.Taken.{Ready, taken_writes}
use Rattle.undo.specs.Saved.{written_in}
use Rattle.reallocate.specs.Elsewhere.{taken_ready, leave_ready, elsewhere_refused, taken_room, elsewhere_back, elsewhere_left}
use Rattle.reallocate.proofs.go_elsewhere.Goals as goal
use Rattle.reallocate.proofs.go_elsewhere.Goals.{In_ok-p}

-- the slices have room for the take
ready : (c : In_ok-p) → let s = c.args in Ready s.a.now s.lists.now s.live.now c.in_ok-p.p
ready c = taken_ready c.args.a.now c.args.lists.now c.args.live.now c.in_ok-p.p c.requires.1 c.in_ok-p.ensures.bounds

pub returns-in_err-p : goal.returns-in_err-p
returns-in_err-p c =
    let s = c.args in
    let p = err_from_is_err_and c.from_residual.result c.from_residual.ensures.1 in
    rw (p.1, p.2) (elsewhere_refused s.a.now s.lists.now s.live.now s.q s.u s.length s.multiple c.in_err-p.field-0.0 c.in_err-p.ensures)

pub save_take-saved-requires : goal.save_take-saved-requires
save_take-saved-requires c = ready (goal.at.save_take-saved-requires c).In_ok-p

pub apply_take-requires : goal.apply_take-requires
apply_take-requires c = ready (goal.at.apply_take-requires c).In_ok-p

pub overflow_mul-to : goal.overflow_mul-to
overflow_mul-to c =
    omega (arith, c.in_ok-p.ensures.bounds.pad, grains_few c.args.a.now c.well_formed.0.0)

pub overflow_add-to : goal.overflow_add-to
overflow_add-to c =
    omega (arith, c.in_ok-p.ensures.bounds.pad, grains_few c.args.a.now c.well_formed.0.0)

pub leave_old-requires : goal.leave_old-requires
leave_old-requires c =
    let r = c.in_ok-p.p in
    let w = taken_writes c.args.a.now r in
    leave_ready c.args.a.now c.args.lists.now c.args.live.now _ _ _ c.args.q c.args.u c.args.length _ c.save_take-saved.result w c.requires.1
    c.requires.2 c.requires.3 c.requires.4
    (taken_room c.args.a.now c.args.lists.now c.args.live.now c.args.q c.args.u c.args.length c.args.multiple r c.in_ok-p.ensures c.requires.0.power)
    (written_in c.args.a.now c.args.lists.now c.args.live.now r (ready (goal.at.leave_old-requires c).In_ok-p)
    c.save_take-saved.result w _ _ _ c.save_take-saved.ensures c.apply_take.ensures)
    c.apply_take.ensures

pub returns-in_err-leave_old : goal.returns-in_err-leave_old
returns-in_err-leave_old c =
    let s = c.args in
    let p = err_from_is_err_and c.from_residual-in_err-leave_old.result c.from_residual-in_err-leave_old.ensures.1 in
    rw (p.1, p.2) (elsewhere_back s.a.now s.lists.now s.live.now s.q s.u s.length s.multiple c.in_ok-p.p c.in_ok-p.ensures
    c.well_formed.0.0 c.requires.1 c.requires.0.power _ _ _ c.apply_take.ensures c.save_take-saved.result _ _ _
    (ready (goal.at.returns-in_err-leave_old c).In_ok-p) c.save_take-saved.ensures c.in_err-leave_old.field-0.0 c.in_err-leave_old.ensures)

pub returns : goal.returns
returns c =
    let s = c.args in
    elsewhere_left s.a.now s.lists.now s.live.now s.q s.u s.length s.multiple c.in_ok-p.p c.in_ok-p.ensures
    c.well_formed.0.0 c.requires.1 c.requires.0.power _ _ _ c.apply_take.ensures c.save_take-saved.result _ _ _
    (ready (goal.at.returns c).In_ok-p) c.save_take-saved.ensures c.in_ok-leave_old.ensures
