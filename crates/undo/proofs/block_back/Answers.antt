-- `undo::block_back`: three words put, one after the other.
use native.Mathlib.Omega.{arith}
use Rattle.free_list.specs.Lent.{grain_put}
use Rattle.undo.proofs.block_back.Goals as goal

pub put_field-requires-3 : goal.put_field-requires-3
put_field-requires-3 c =
    (grain_put _ _ _ _ c.args.s.pad.at c.put_field-2.ensures (grain_put c.args.a.now _ _ _ c.args.s.pad.at c.put_field.ensures c.requires.2), omega arith)
