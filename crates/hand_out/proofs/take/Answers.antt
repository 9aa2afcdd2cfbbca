-- `hand_out::take`: the steps, the guard and the tags are all of the deed.
use Prim.Native.Nat.{ℕ}
use native.Mathlib.Omega.{arith}
use mathlib.Core.Path.{◌≡◌, refl, ap, sym, ◌∙◌, subst}
use mathlib.Core.List.{List}
use Rattle.definition.specs.Calls.{place, keeps}
use Rattle.chains.specs.Steps.{Step, leave}
use Rattle.tags.specs.Writes.{allocate_tags}
use Rattle.plans.specs.Allocate.{Taken, rest_steps, taken_steps}
use Rattle.stamps.specs.Stores.{tag_stores}
use Rattle.deeds.specs.Runs.{Runs, CanRun, can_leave, run_next, runs_then, runs_grains}
use Rattle.hand_out.specs.Take.{take_done}
use Rattle.hand_out.proofs.take.Goals as goal
use Rattle.hand_out.proofs.take.Goals.{After-enter_rest, After-keep-keep, After-leave, Start}

-- what is taken, and what becomes of its rest
abbrev taken : (c : Start) → Taken
taken c = record { list = c.args.found.list; block = c.args.found.block; grains = c.args.found.grains }

abbrev rest : (c : Start) → List Step
rest c = rest_steps c.args.found.block c.args.found.grains (keeps (place c.args.asked.multiple c.args.found.block) c.args.asked.length)

abbrev steps : (c : Start) → List Step
steps c =
    let taken : Taken = record { list = c.args.found.list; block = c.args.found.block; grains = c.args.found.grains } in taken_steps c.args.asked.length c.args.asked.multiple (taken)

-- place and keep are as the definition has them
kept : (c : After-keep-keep) → c.keep-keep.result ≡ keeps (place c.args.asked.multiple c.args.found.block) c.args.asked.length
kept c = c.keep-keep.ensures

tagged : (c : After-keep-keep) → allocate_tags c.args.found.block c.args.found.grains c.keep-keep.result c.place-place.result
    ≡ allocate_tags c.args.found.block c.args.found.grains (keeps (place c.args.asked.multiple c.args.found.block) c.args.asked.length) (place c.args.asked.multiple c.args.found.block)
tagged c =
    let kept : c.keep-keep.result ≡ keeps (place c.args.asked.multiple c.args.found.block) c.args.asked.length = c.keep-keep.ensures in
    ap (λ (z : ℕ). allocate_tags c.args.found.block c.args.found.grains z c.place-place.result) (kept)
    ∙ ap (allocate_tags c.args.found.block c.args.found.grains (keeps (place c.args.asked.multiple c.args.found.block) c.args.asked.length)) c.place-place.ensures

-- the block has left its list
left : (c : After-leave) → CanRun (rest_steps c.args.found.block c.args.found.grains c.keep-keep.result) c.leave.new.self.arena.now c.leave.new.self.lists.now
left c =
    let kept : c.keep-keep.result ≡ keeps (place c.args.asked.multiple c.args.found.block) c.args.asked.length = c.keep-keep.ensures in
    let rest : List Step = rest_steps c.args.found.block c.args.found.grains (keeps (place c.args.asked.multiple c.args.found.block) c.args.asked.length) in
    subst (λ (z : ℕ). CanRun (rest_steps c.args.found.block c.args.found.grains z) c.leave.new.self.arena.now c.leave.new.self.lists.now) (sym (kept))
    (run_next (leave c.args.found.list c.args.found.block) (rest) c.args.links.now.arena.now c.args.links.now.lists.now c.leave.new.self.arena.now c.leave.new.self.lists.now c.requires.steps c.leave.ensures.stepped)

-- and its rest has entered one
ran : (c : After-enter_rest) → let taken : Taken = record { list = c.args.found.list; block = c.args.found.block; grains = c.args.found.grains } in
    let steps : List Step = taken_steps c.args.asked.length c.args.asked.multiple (taken) in
    Runs (steps) c.args.links.now.arena.now c.args.links.now.lists.now c.enter_rest.new.links.arena.now c.enter_rest.new.links.lists.now
ran c =
    let rest : List Step = rest_steps c.args.found.block c.args.found.grains (keeps (place c.args.asked.multiple c.args.found.block) c.args.asked.length) in
    let kept : c.keep-keep.result ≡ keeps (place c.args.asked.multiple c.args.found.block) c.args.asked.length = c.keep-keep.ensures in
    runs_then (leave c.args.found.list c.args.found.block) (rest) c.args.links.now.arena.now c.args.links.now.lists.now c.leave.new.self.arena.now c.leave.new.self.lists.now c.enter_rest.new.links.arena.now c.enter_rest.new.links.lists.now
    c.requires.steps c.leave.ensures.stepped
    (subst (λ (z : ℕ). Runs (rest_steps c.args.found.block c.args.found.grains z) c.leave.new.self.arena.now c.leave.new.self.lists.now c.enter_rest.new.links.arena.now c.enter_rest.new.links.lists.now) (kept) c.enter_rest.ensures.runs)

pub leave-requires : goal.leave-requires
leave-requires c =
    can_leave c.args.found.list c.args.found.block (rest (goal.at.leave-requires c).Start) c.args.links.now.arena.now c.args.links.now.lists.now c.requires.steps

pub enter_rest-requires : goal.enter_rest-requires
enter_rest-requires c =
    (left (goal.at.enter_rest-requires c).After-leave, omega (arith, kept (goal.at.enter_rest-requires c).After-keep-keep, c.requires.tags.fits), c.requires.tags.counted)

pub put_guard-requires : goal.put_guard-requires
put_guard-requires c =
    omega (arith, c.requires.inside, runs_grains (steps (goal.at.put_guard-requires c).Start) c.args.links.now.arena.now c.args.links.now.lists.now c.enter_rest.new.links.arena.now c.enter_rest.new.links.lists.now (ran (goal.at.put_guard-requires c).After-enter_rest))

pub returns-clause-does : goal.returns-clause-does
returns-clause-does c =
    take_done c.args.links.now.arena.now c.args.links.now.lists.now c.args.tags.now c.args.asked.length c.args.asked.multiple (taken (goal.at.returns-clause-does c).Start) c.put_guard.new.a c.enter_rest.new.links.lists.now c.enter_rest.new.links.arena.now c.enter_rest.new.links.lists.now c.allocate_tags.new.tags c.requires.steps (ran (goal.at.returns-clause-does c).After-enter_rest)
    c.put_guard.ensures refl
    (c.allocate_tags.ensures ∙ ap (tag_stores c.args.tags.now) (tagged (goal.at.returns-clause-does c).After-keep-keep))
