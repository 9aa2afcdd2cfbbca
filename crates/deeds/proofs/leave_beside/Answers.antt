-- `deeds::leave_beside`: there is none, or one step is made.
use Rattle.deeds.specs.Maybe.{none_leaves, one_can_leave, one_leaves}
use Rattle.deeds.proofs.leave_beside.Goals as goal

pub leave-requires : goal.leave-requires
leave-requires c =
    one_can_leave c.args.links.now.arena.now c.args.links.now.lists.now c.args.t c.args.y c.requires.0 c.if-t-ne0.true c.list_of.result c.list_of.ensures.0

pub returns-then-t-ne0-clause-runs : goal.returns-then-t-ne0-clause-runs
returns-then-t-ne0-clause-runs c =
    one_leaves c.args.links.now.arena.now c.args.links.now.lists.now c.args.t c.args.y c.requires.0 c.if-t-ne0.true c.list_of.result c.list_of.ensures.0 c.leave.new.self.arena.now c.leave.new.self.lists.now c.leave.ensures.stepped

pub returns-else-t-ne0-clause-runs : goal.returns-else-t-ne0-clause-runs
returns-else-t-ne0-clause-runs c =
    none_leaves c.args.links.now.arena.now c.args.links.now.lists.now c.args.t c.args.y c.requires.0 c.if-t-ne0.false
