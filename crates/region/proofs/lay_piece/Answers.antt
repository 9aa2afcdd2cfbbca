-- `region::lay_piece` meets its contract: the two headers, and then the list, as the plan writes them. Assumes nothing.
use native.Mathlib.Omega.{arith}
use Rattle.header.specs.Turned.{grains_few}
use Rattle.region.specs.Piece.{header_grain, can_push, piece_written}
use Rattle.region.proofs.lay_piece.Goals as goal

pub overflow_add-x : goal.overflow_add-x
overflow_add-x c =
    omega (arith, c.requires.inside, grains_few c.args.a.now c.well_formed.0.0)

pub bytes_of-requires-2 : goal.bytes_of-requires-2
bytes_of-requires-2 c =
    omega (arith, c.requires.inside, grains_few c.args.a.now c.well_formed.0.0)

pub put_header-requires-2 : goal.put_header-requires-2
put_header-requires-2 c =
    header_grain c.args.a.now _ c.args.x c.bytes_of.result _ c.put_header.ensures _
    (omega (arith, c.requires.inside, c.requires.long))

pub push-requires : goal.push-requires
push-requires c =
    can_push c.args.a.now c.args.lists.now c.args.x c.args.m c.args.h c.map_floor-k.result c.requires c.well_formed.0.0 c.map_floor-k.ensures _ _
    c.bytes_of.result c.bytes_of-2.result c.bytes_of.ensures c.bytes_of-2.ensures c.put_header.ensures c.put_header-2.ensures

pub returns : goal.returns
returns c =
    piece_written c.args.a.now c.args.lists.now c.args.x c.args.m c.args.h c.map_floor-k.result c.requires c.well_formed.0.0 c.map_floor-k.ensures _ _
    c.bytes_of.result c.bytes_of-2.result c.bytes_of.ensures c.bytes_of-2.ensures c.put_header.ensures c.put_header-2.ensures
    _ _ c.push.ensures
