-- `reallocate::leave_old`: the return is planned on the slices as the take left them; where it is refused the take is
-- undone, and else the payload is carried and what was planned is written. Neither changes a length.
use Rattle.deallocate.specs.Shown.{able_keep}
use Rattle.reallocate.specs.Left.{halves_inside, left_done}
use Rattle.reallocate.proofs.leave_old.Goals as goal

pub move_halves-requires : goal.move_halves-requires
move_halves-requires c =
    (halves_inside c.args.a.now c.args.q c.args.u c.requires.4, halves_inside c.args.a.now c.args.to c.args.u c.requires.5)

pub apply_later-requires : goal.apply_later-requires
apply_later-requires c =
    (able_keep c.args.a.now _ c.in-Ok.back c.move_halves.auto.a c.in-Ok.ensures.able.0, c.requires.1, c.requires.2)

pub returns-in-Ok : goal.returns-in-Ok
returns-in-Ok c =
    let s = c.args in
    left_done s.a.now s.lists.now s.live.now s.q s.to s.u s.s c.in-Ok.back c.in-Ok.ensures _ _ _ _ c.move_halves.auto.a c.move_halves.ensures c.apply_later.ensures
