-- `deallocate::apply_now`: a neighbour that is there leaves, and the joined block is put; none of it changes a length.
use native.Mathlib.Omega.{arith}
use Rattle.std.specs.Prelude.{Some, None}
use Rattle.header.specs.Turned.{grains_few}
use Rattle.free_list.specs.Written.{written_none}
use Rattle.neighbours.specs.Leaving.{both_left}
use Rattle.deallocate.specs.Written.{able_after, joined_after}
use Rattle.deallocate.proofs.apply_now.Goals as goal

pub put_joined-requires-in-None-Some : goal.put_joined-requires-in-None-Some
put_joined-requires-in-None-Some c =
    let k = able_after c.args.p c.unlink_at.ensures c.requires.0.0 c.requires.1 in
    (k.0, k.1, c.requires.2)

pub returns-in-None-Some : goal.returns-in-None-Some
returns-in-None-Some c =
    let i = c.in-None-Some in
    joined_after c.args.q c.args.p (rw (i.is-0, i.is-1) c.unlink_at.ensures) c.put_joined-in-None-Some.ensures

pub overflow_add-y : goal.overflow_add-y
overflow_add-y c = omega (arith, c.requires.0.0.inside, grains_few c.args.a.now c.well_formed.0.0)

pub put_joined-requires-in-Some-None : goal.put_joined-requires-in-Some-None
put_joined-requires-in-Some-None c =
    let k = able_after c.args.p c.unlink_at-in-Some-None.ensures c.requires.0.0 c.requires.1 in
    (k.0, k.1, c.requires.2)

pub returns-in-Some-None : goal.returns-in-Some-None
returns-in-Some-None c =
    let i = c.in-Some-None in
    joined_after c.args.q c.args.p (rw (i.is-0, i.is-1) (both_left (Some i.e) None c.unlink_at-in-Some-None.ensures (written_none _ _))) c.put_joined-in-Some-None.ensures
