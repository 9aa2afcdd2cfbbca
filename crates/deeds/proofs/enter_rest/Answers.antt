-- `deeds::enter_rest`: nothing is left, or one step is made.
use native.Mathlib.Omega.{arith}
use mathlib.Core.List.{[]}
use Rattle.deeds.specs.Maybe.{none_enters, rest_below, one_can_enter, one_enters}
use Rattle.deeds.proofs.enter_rest.Goals as goal

pub overflow_add-x : goal.overflow_add-x
overflow_add-x c =
    omega (arith, rest_below c.args.links.now.arena.now c.args.links.now.lists.now c.args.x c.args.t c.args.k c.requires.0 c.if-k-t.true, (c.requires.0 [] []).few)

pub enter-requires : goal.enter-requires
enter-requires c =
    one_can_enter c.args.links.now.arena.now c.args.links.now.lists.now c.args.x c.args.t c.args.k c.requires.0 c.if-k-t.true c.list_of.result c.list_of.ensures.0

pub returns-then-k-t-clause-runs : goal.returns-then-k-t-clause-runs
returns-then-k-t-clause-runs c =
    one_enters c.args.links.now.arena.now c.args.links.now.lists.now c.args.x c.args.t c.args.k c.requires.0 c.if-k-t.true c.list_of.result c.list_of.ensures.0 c.enter.new.self.arena.now c.enter.new.self.lists.now c.enter.ensures.stepped

pub returns-else-k-t-clause-runs : goal.returns-else-k-t-clause-runs
returns-else-k-t-clause-runs c =
    none_enters c.args.links.now.arena.now c.args.links.now.lists.now c.args.x c.args.t c.args.k c.requires.0 c.if-k-t.false
