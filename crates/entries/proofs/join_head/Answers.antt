-- `entries::join_head`: the head, and then the mark.
use Rattle.entries.specs.Marks.{lists_left}
use Rattle.entries.proofs.join_head.Goals as goal

pub returns : goal.returns
returns c =
    lists_left c.args.lists.now _ _ c.args.k c.args.y c.args.x c.args.p c.head-head.result c.choose.result c.choose-2.result c.requires.1
    c.head-head.ensures c.choose.ensures c.put_head.ensures c.choose-2.ensures c.unmark_where.ensures
