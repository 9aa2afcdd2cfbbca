-- `take_back::free`: the steps and the tags are all of the deed.
use Prim.Native.Nat.{ℕ, ◌-◌}
use native.Mathlib.Omega.{arith}
use mathlib.Core.Path.{sym, subst}
use mathlib.Core.List.{List, [], ◌∷◌}
use Rattle.chains.specs.Steps.{Step, enter}
use Rattle.plans.specs.Deallocate.{beside_steps, join_steps}
use Rattle.deeds.specs.Runs.{Runs, CanRun, can_enter, run_left, run_right, runs_none, runs_then}
use Rattle.take_back.specs.Returned.{Freed}
use Rattle.take_back.specs.Free.{free_done}
use Rattle.take_back.proofs.free.Goals as goal
use Rattle.take_back.proofs.free.Goals.{After-list_of, Start}

-- what is freed, and its steps
abbrev freed : (c : Start) → Freed
freed c = record { at = c.args.found.block.at; grains = c.args.found.block.grains; before = c.args.found.before; after = c.args.found.after }

abbrev early : (c : Start) → List Step
early c = beside_steps c.args.found.block.at c.args.found.block.grains c.args.found.before c.args.found.after

abbrev late : (c : Start) → List Step
late c = join_steps c.args.found.block.at c.args.found.block.grains c.args.found.before c.args.found.after

-- the neighbours have left their lists
entering : (c : After-list_of) → CanRun (enter c.list_of.result (c.args.found.block.at - c.args.found.before) ∷ []) c.leave_both.new.links.arena.now c.leave_both.new.links.lists.now
entering c =
    let early : List Step = beside_steps c.args.found.block.at c.args.found.block.grains c.args.found.before c.args.found.after in
    let late : List Step = join_steps c.args.found.block.at c.args.found.block.grains c.args.found.before c.args.found.after in
    subst (λ (k : ℕ). CanRun (enter k (c.args.found.block.at - c.args.found.before) ∷ []) c.leave_both.new.links.arena.now c.leave_both.new.links.lists.now) (sym c.list_of.ensures.0)
    (run_right (early) (late) c.args.links.now.arena.now c.args.links.now.lists.now c.leave_both.new.links.arena.now c.leave_both.new.links.lists.now c.requires.steps c.leave_both.ensures.runs)

pub leave_both-requires : goal.leave_both-requires
leave_both-requires c = (
  run_left (early (goal.at.leave_both-requires c).Start) (late (goal.at.leave_both-requires c).Start) c.args.links.now.arena.now c.args.links.now.lists.now [] [] c.requires.steps,
  omega (arith, c.requires.tags.counted),
  omega (arith, c.requires.tags.counted),
  c.requires.tags.before,
  omega (arith, c.requires.ends, (c.requires.steps [] []).few),
)

pub enter-requires : goal.enter-requires
enter-requires c =
    can_enter c.list_of.result (c.args.found.block.at - c.args.found.before) [] c.leave_both.new.links.arena.now c.leave_both.new.links.lists.now (entering (goal.at.enter-requires c).After-list_of)

pub returns-clause-does : goal.returns-clause-does
returns-clause-does c =
    free_done c.args.links.now.arena.now c.args.links.now.lists.now c.args.tags.now c.args.q (freed (goal.at.returns-clause-does c).Start) c.leave_both.new.links.arena.now c.leave_both.new.links.lists.now c.enter.new.self.arena.now c.enter.new.self.lists.now c.deallocate_tags.new.tags
    c.requires.steps c.leave_both.ensures.runs
    (subst (λ (k : ℕ). Runs (enter k (c.args.found.block.at - c.args.found.before) ∷ []) c.leave_both.new.links.arena.now c.leave_both.new.links.lists.now c.enter.new.self.arena.now c.enter.new.self.lists.now) c.list_of.ensures.0
    (runs_then (enter c.list_of.result (c.args.found.block.at - c.args.found.before)) [] c.leave_both.new.links.arena.now c.leave_both.new.links.lists.now c.enter.new.self.arena.now c.enter.new.self.lists.now c.enter.new.self.arena.now c.enter.new.self.lists.now (entering (goal.at.returns-clause-does c).After-list_of) c.enter.ensures.stepped
    (runs_none c.enter.new.self.arena.now c.enter.new.self.lists.now)))
    c.deallocate_tags.ensures
