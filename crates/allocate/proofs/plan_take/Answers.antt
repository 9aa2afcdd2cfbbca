-- `allocate::plan_take`: each return is one law of a plan. A search for 4,096 grains or more would start behind all lists.
use Prim.Native.Nat.{◌+◌, ◌-◌, ◌/◌, ◌<◌}
use native.Mathlib.Omega.{arith}
use mathlib.Core.Path.{◌≡◌, ap, ◌∙◌}
use Rattle.std.proofs.lemmas.Result.{err_from_is_err_and}
use Rattle.align.proofs.Align.{power_pos}
use Rattle.class.specs.Class.{start_of}
use Rattle.class.proofs.Class.{start_small}
use Rattle.definition.specs.Calls.{wanted}
use Rattle.invariants.proofs.Placing.{wanted_some, wanted_counted}
use Rattle.allocate.specs.Plan.{plan_large, plan_none, plan_damaged, plan_cut, plan_enough}
use Rattle.allocate.proofs.plan_take.Goals as goal
use Rattle.allocate.proofs.plan_take.Goals.{After-map_ceil, Start}

-- a multiple is at least 1
some : (c : Start) → 0 < c.args.multiple
some c = power_pos c.args.multiple c.requires.0.power

-- so what is wanted is counted as the definition counts it
counted : (c : Start) → (c.args.length + c.args.multiple - 1) / 2 + 1 ≡ wanted c.args.length c.args.multiple
counted c = wanted_counted c.args.length c.args.multiple (power_pos c.args.multiple c.requires.0.power)

-- and the search starts where the definition's does
starts : (c : After-map_ceil) → let s = c.args in c.map_ceil.result ≡ start_of (wanted s.length s.multiple)
starts c = c.map_ceil.ensures ∙ ap start_of (wanted_counted c.args.length c.args.multiple (power_pos c.args.multiple c.requires.0.power))

pub returns-then-wanted-ge-LARGE : goal.returns-then-wanted-ge-LARGE
returns-then-wanted-ge-LARGE c =
    plan_large c.args.a.now c.args.lists.now c.args.length c.args.multiple _ (counted (goal.at.returns-then-wanted-ge-LARGE c).Start) c.if-wanted-ge-LARGE.true

pub first_marked-requires : goal.first_marked-requires
first_marked-requires c =
    let w = wanted_some c.args.length c.args.multiple (some (goal.at.first_marked-requires c).Start) in
    (omega (arith, c.requires.1), omega (arith, starts (goal.at.first_marked-requires c).After-map_ceil, start_small (wanted c.args.length c.args.multiple) w 12 (omega (arith, counted (goal.at.first_marked-requires c).Start, c.if-wanted-ge-LARGE.false))))

pub returns-in_default : goal.returns-in_default
returns-in_default c =
    plan_none c.args.a.now c.args.lists.now c.args.length c.args.multiple c.map_ceil.result 192 (starts (goal.at.returns-in_default c).After-map_ceil) c.in_default.ensures.0 (omega arith)

pub returns-in_err-first : goal.returns-in_err-first
returns-in_err-first c =
    let p = err_from_is_err_and c.from_residual.result c.from_residual.ensures.1 in
    rw (p.1, p.2) (plan_damaged c.args.a.now c.args.lists.now c.args.length c.args.multiple c.map_ceil.result c.in-Some.list (starts (goal.at.returns-in_err-first c).After-map_ceil) c.in-Some.ensures.0 c.in-Some.ensures.1
    c.in_err-first.field-0.0 c.in_err-first.ensures.0)

pub cut-requires : goal.cut-requires
cut-requires c =
    let w = wanted_some c.args.length c.args.multiple (some (goal.at.cut-requires c).Start) in (
      c.requires.0,
      record { known = c.in-Some.ensures.1; room = c.requires.1 },
      c.in_ok-first.ensures.1,
      plan_enough c.args.a.now c.args.lists.now c.args.length c.args.multiple c.map_ceil.result c.in-Some.list (starts (goal.at.cut-requires c).After-map_ceil) c.in-Some.ensures.0 c.in-Some.ensures.1 c.in_ok-first.first c.in_ok-first.ensures w,
    )

pub returns : goal.returns
returns c =
    plan_cut c.args.a.now c.args.lists.now c.args.length c.args.multiple c.map_ceil.result c.in-Some.list (starts (goal.at.returns c).After-map_ceil) c.in-Some.ensures.0 c.in-Some.ensures.1
    c.in_ok-first.first c.in_ok-first.ensures c.cut.result c.cut.ensures
