-- `free_list::join_prev`: the link of the grain behind, or the mark, or nothing.
use Rattle.free_list.specs.Moves.{prev_grain, prev_last, prev_only}
use Rattle.free_list.proofs.join_prev.Goals as goal

pub returns-then-x-ne-NONE : goal.returns-then-x-ne-NONE
returns-then-x-ne-NONE c =
    prev_grain c.args.a.now c.args.lists.now c.args.k c.args.x c.args.p c.well_formed.0.0 c.requires.1 c.requires.2 _ c.grain_of.result c.if-x-ne-NONE.true c.grain_of.ensures c.put_field.ensures

pub returns-then-p-ne-NONE : goal.returns-then-p-ne-NONE
returns-then-p-ne-NONE c =
    prev_last c.args.a.now c.args.lists.now c.args.k c.args.x c.args.p c.well_formed.0.0 c.requires.1 c.requires.2 c.if-x-ne-NONE.false c.if-p-ne-NONE.true

pub returns : goal.returns
returns c =
    prev_only c.args.a.now c.args.lists.now c.args.k c.args.x c.args.p c.well_formed.0.0 c.requires.1 c.requires.2 _ c.if-x-ne-NONE.false c.if-p-ne-NONE.false c.unmark.ensures
