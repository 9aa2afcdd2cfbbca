-- `free_list::put_entry`: two words put, one after the other.
use native.Mathlib.Omega.{arith}
use Rattle.free_list.specs.Lent.{grain_put}
use Rattle.free_list.proofs.put_entry.Goals as goal

pub put_field-requires-2 : goal.put_field-requires-2
put_field-requires-2 c =
    (grain_put c.args.a.now _ _ _ c.args.y c.put_field.ensures c.requires, omega arith)
