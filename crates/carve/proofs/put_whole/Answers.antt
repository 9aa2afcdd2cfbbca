-- `carve::put_whole`: the two words, one after the other.
use Rattle.carve.specs.Made.{whole_made}
use Rattle.carve.proofs.put_whole.Goals as goal

pub returns : goal.returns
returns c =
    whole_made c.args.a.now _ _ c.args.x c.args.t c.well_formed.0.0 c.requires c.bytes_of.result c.bytes_of-2.result c.bytes_of.ensures c.bytes_of-2.ensures c.put_field.ensures c.put_field-2.ensures
