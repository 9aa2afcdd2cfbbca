-- `undo::header_back`: four words put, one after the other.
use native.Mathlib.Omega.{arith}
use Rattle.free_list.specs.Lent.{grain_put}
use Rattle.undo.proofs.header_back.Goals as goal

pub put_field-requires-3 : goal.put_field-requires-3
put_field-requires-3 c =
    (grain_put _ _ _ _ c.args.s.at c.put_field-2.ensures (grain_put c.args.a.now _ _ _ c.args.s.at c.put_field.ensures c.requires), omega arith)

pub put_field-requires-4 : goal.put_field-requires-4
put_field-requires-4 c =
    (grain_put _ _ _ _ c.args.s.at c.put_field-3.ensures (grain_put _ _ _ _ c.args.s.at c.put_field-2.ensures (grain_put c.args.a.now _ _ _ c.args.s.at c.put_field.ensures c.requires)), omega arith)
