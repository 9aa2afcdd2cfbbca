-- `deeds::leave_both`: some steps, and then the others.
use Prim.Native.Nat.{◌+◌, ◌-◌}
use mathlib.Core.List.{[]}
use Rattle.plans.specs.Deallocate.{leave_steps}
use Rattle.deeds.specs.Runs.{run_left, run_right, runs_more}
use Rattle.deeds.proofs.leave_both.Goals as goal

pub leave_beside-requires : goal.leave_beside-requires
leave_beside-requires c =
    let u = leave_steps c.args.after (c.args.x + c.args.s) in
    let v = leave_steps c.args.before (c.args.x - c.args.before) in
    (run_left u v c.args.links.now.arena.now c.args.links.now.lists.now [] [] c.requires.0, c.requires.2)

pub leave_beside-requires-2 : goal.leave_beside-requires-2
leave_beside-requires-2 c =
    let u = leave_steps c.args.after (c.args.x + c.args.s) in
    let v = leave_steps c.args.before (c.args.x - c.args.before) in
    (run_right u v c.args.links.now.arena.now c.args.links.now.lists.now c.leave_beside.new.links.arena.now c.leave_beside.new.links.lists.now c.requires.0 c.leave_beside.ensures.runs, c.requires.1)

pub returns-clause-runs : goal.returns-clause-runs
returns-clause-runs c =
    let u = leave_steps c.args.after (c.args.x + c.args.s) in
    let v = leave_steps c.args.before (c.args.x - c.args.before) in
    runs_more u v c.args.links.now.arena.now c.args.links.now.lists.now c.leave_beside.new.links.arena.now c.leave_beside.new.links.lists.now c.requires.0 c.leave_beside.ensures.runs c.leave_beside-2.new.links.arena.now c.leave_beside-2.new.links.lists.now c.leave_beside-2.ensures.runs
