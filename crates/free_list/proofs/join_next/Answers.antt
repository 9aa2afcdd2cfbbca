-- `free_list::join_next`: the head's word, or the link of the grain before.
use Rattle.free_list.specs.Moves.{next_head, next_grain}
use Rattle.free_list.proofs.join_next.Goals as goal

pub returns-then-p-eq-NONE : goal.returns-then-p-eq-NONE
returns-then-p-eq-NONE c =
    next_head c.args.a.now c.args.lists.now c.args.k c.args.x c.args.p c.well_formed.0.0 c.requires.1 c.requires.2 _ c.if-p-eq-NONE.true c.store.ensures

pub returns : goal.returns
returns c =
    next_grain c.args.a.now c.args.lists.now c.args.k c.args.x c.args.p c.well_formed.0.0 c.requires.1 c.requires.2 _ c.grain_of.result c.if-p-eq-NONE.false c.grain_of.ensures c.put_field.ensures
