-- `carve::put_left`: a whole block, or one pushed and split off.
use Rattle.slices.proofs.Decode.{grains_keep}
use Rattle.free_list.specs.Lent.{link}
use Rattle.free_list.specs.Written.{written_length}
use Rattle.carve.specs.Made.{left_whole, left_split}
use Rattle.carve.proofs.put_left.Goals as goal

pub returns-then-m-t : goal.returns-then-m-t
returns-then-m-t c =
    left_whole c.args.a.now _ c.args.lists.now c.args.x c.args.t c.args.m c.args.q (link c.args.a.now c.args.h) c.if-m-t.true c.put_whole.ensures

pub put_split-requires : goal.put_split-requires
put_split-requires c =
    (c.requires.0, rw (grains_keep 8 c.args.a.now _ (written_length c.push.ensures)) c.requires.1)

pub returns : goal.returns
returns c =
    left_split c.args.a.now _ _ c.args.lists.now _ c.args.x c.args.t c.args.m c.args.q (link c.args.a.now c.args.h) c.if-m-t.false c.push.ensures c.put_split.ensures
