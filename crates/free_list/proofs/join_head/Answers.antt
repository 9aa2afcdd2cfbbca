-- `free_list::join_head`: the mark, or the link of the old head.
use Rattle.free_list.specs.Moves.{head_none, head_some}
use Rattle.free_list.proofs.join_head.Goals as goal

pub returns-then-h-eq-NONE : goal.returns-then-h-eq-NONE
returns-then-h-eq-NONE c =
    head_none c.args.a.now c.args.lists.now c.args.k c.args.y c.args.h c.well_formed.0.0 c.requires.0 _ c.if-h-eq-NONE.true c.mark.ensures

pub returns : goal.returns
returns c =
    head_some c.args.a.now c.args.lists.now c.args.k c.args.y c.args.h c.well_formed.0.0 c.requires.0 c.requires.2 _ c.grain_of.result c.bytes_of.result c.if-h-eq-NONE.false c.grain_of.ensures c.bytes_of.ensures c.put_field.ensures
