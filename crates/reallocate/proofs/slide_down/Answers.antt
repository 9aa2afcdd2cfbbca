-- `reallocate::slide_down`: the neighbours leave, the payload is carried, and the block is made; none of them changes a
-- length.
use native.Mathlib.Omega.{arith}
use Rattle.header.specs.Turned.{grains_few}
use Rattle.reallocate.specs.Slid.{halves_left, down_ready, slid_parts}
use Rattle.reallocate.proofs.slide_down.Goals as goal

pub overflow_mul-p : goal.overflow_mul-p
overflow_mul-p c =
    omega (arith, c.requires.target, grains_few c.args.a.now c.well_formed.0.0)

pub overflow_add-p : goal.overflow_add-p
overflow_add-p c =
    omega (arith, c.requires.target, grains_few c.args.a.now c.well_formed.0.0)

pub move_halves-requires : goal.move_halves-requires
move_halves-requires c =
    halves_left c.args.a.now c.args.lists.now c.args.live.now c.args.q c.args.u c.args.p c.requires _ _ c.apply_leaving.ensures

pub apply_down-requires : goal.apply_down-requires
apply_down-requires c =
    down_ready c.args.a.now c.args.lists.now c.args.live.now c.args.q c.args.u c.args.p c.requires _ _ c.apply_leaving.ensures _ c.move_halves.auto.a

pub returns : goal.returns
returns c =
    let s = c.args in
    slid_parts s.a.now s.lists.now s.live.now _ _ _ _ _ _ s.q s.u s.p c.apply_leaving.ensures c.move_halves.ensures c.move_halves.auto.a c.apply_down.ensures
