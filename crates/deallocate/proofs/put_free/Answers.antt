-- `deallocate::put_free`: two words put, one after the other.
use native.Mathlib.Omega.{arith}
use Rattle.header.specs.Turned.{grains_few}
use Rattle.free_list.specs.Lent.{grain_put}
use Rattle.deallocate.specs.Written.{freed_words}
use Rattle.deallocate.proofs.put_free.Goals as goal

pub bytes_of-requires : goal.bytes_of-requires
bytes_of-requires c =
    omega (arith, c.requires, grains_few c.args.a.now c.well_formed.0.0)

pub overflow_add-z : goal.overflow_add-z
overflow_add-z c =
    omega (arith, c.requires, grains_few c.args.a.now c.well_formed.0.0)

pub bytes_of-requires-2 : goal.bytes_of-requires-2
bytes_of-requires-2 c =
    omega (arith, c.requires, grains_few c.args.a.now c.well_formed.0.0)

pub put_field-requires-2 : goal.put_field-requires-2
put_field-requires-2 c =
    (grain_put c.args.a.now _ _ _ _ c.put_field.ensures c.requires, omega arith)

pub returns : goal.returns
returns c =
    freed_words c.args.a.now _ _ c.args.z c.args.t c.bytes_of.result c.bytes_of-2.result c.well_formed.0.0 (omega (arith, c.requires))
    c.bytes_of.ensures c.bytes_of-2.ensures c.put_field.ensures c.put_field-2.ensures
