-- `carve::put_split`: the four words, one after the other.
use native.Mathlib.Omega.{arith}
use Rattle.carve.specs.Made.{put_grains, split_made}
use Rattle.carve.proofs.put_split.Goals as goal

pub put_field-requires-3 : goal.put_field-requires-3
put_field-requires-3 c =
    (omega (arith, c.requires, put_grains _ _ _ _ c.put_field.ensures, put_grains _ _ _ _ c.put_field-2.ensures), omega arith)

pub put_field-requires-4 : goal.put_field-requires-4
put_field-requires-4 c =
    (omega (arith, c.requires, put_grains _ _ _ _ c.put_field.ensures, put_grains _ _ _ _ c.put_field-2.ensures, put_grains _ _ _ _ c.put_field-3.ensures), omega arith)

pub returns : goal.returns
returns c =
    split_made c.args.a.now _ _ c.args.x c.args.t c.well_formed.0.0 c.requires.1 _ _ c.args.m c.bytes_of.result c.bytes_of-2.result c.bytes_of-3.result c.bytes_of-4.result c.requires.0
    c.bytes_of.ensures c.bytes_of-2.ensures c.bytes_of-3.ensures c.bytes_of-4.ensures c.put_field.ensures c.put_field-2.ensures c.put_field-3.ensures c.put_field-4.ensures
