-- `firmheap::allocate`: tables, then numbers, then the plan's refusal, or what was planned is stored.
use Prim.Native.Nat.{◌+◌, ◌*◌, ◌<◌, ◌^◌}
use native.Mathlib.Omega.{arith}
use lib.ListN.{length}
use Rattle.std.proofs.lemmas.Result.{err_from_is_err_and}
use Rattle.choice.specs.Says.{says_yes, says_no}
use Rattle.tables.specs.Length.{LongEnough}
use Rattle.allocate.specs.Demand.{asked_demand}
use Rattle.occupy.specs.Taken.{plan_ready}
use Rattle.firmheap.specs.Take.{take_live, take_offset, allocate_short, allocate_wrong, allocate_refused, allocate_done}
use Rattle.firmheap.proofs.allocate.Goals as goal
use Rattle.firmheap.proofs.allocate.Goals.{Else-not-long_enough, In_ok-p}

-- behind the first test the tables are long enough
long : (c : Else-not-long_enough) → let s = c.args in LongEnough (length s.arena.now) (length s.lists.now) (length s.live.now)
long c = says_yes _ c.long_enough.result c.long_enough.ensures c.if-not-long_enough.false

-- the payload's offset is a number of the machine
offset : (c : In_ok-p) → let r = c.in_ok-p.p in 16 * (2 * r.at + r.place) < 2 ^ 64
offset c = take_offset c.args.arena.now c.args.lists.now c.in_ok-p.p c.well_formed.0.0 c.in_ok-p.ensures.bounds

pub returns-then-not-long_enough : goal.returns-then-not-long_enough
returns-then-not-long_enough c =
    allocate_short _ _ _ c.args.size c.args.align c.well_formed.0.0 (says_no _ c.long_enough.result c.long_enough.ensures c.if-not-long_enough.true)

pub returns-in_err-asked : goal.returns-in_err-asked
returns-in_err-asked c =
    let s = c.args in
    let p = err_from_is_err_and c.from_residual.result c.from_residual.ensures.1 in
    rw (p.1, p.2) (allocate_wrong _ _ _ s.size s.align c.well_formed.0.0 (long (goal.at.returns-in_err-asked c).Else-not-long_enough) c.in_err-asked.field-0.0 c.in_err-asked.ensures)

pub plan_take-requires : goal.plan_take-requires
plan_take-requires c = (asked_demand c.args.size c.args.align c.in_ok-asked.asked c.in_ok-asked.ensures, (long (goal.at.plan_take-requires c).Else-not-long_enough).heads)

pub returns-in_err-p : goal.returns-in_err-p
returns-in_err-p c =
    let s = c.args in
    let p = err_from_is_err_and c.from_residual-in_err-p.result c.from_residual-in_err-p.ensures.1 in
    rw (p.1, p.2) (allocate_refused _ _ _ s.size s.align c.well_formed.0.0 (long (goal.at.returns-in_err-p c).Else-not-long_enough) c.in_ok-asked.asked c.in_ok-asked.ensures
    c.in_err-p.field-0.0 c.in_err-p.ensures)

pub apply_take-requires : goal.apply_take-requires
apply_take-requires c =
    let s = c.args in
    let b = c.in_ok-p.ensures.bounds in
    plan_ready s.arena.now s.lists.now s.live.now c.in_ok-p.p b (take_live s.arena.now s.lists.now s.live.now c.in_ok-p.p (long (goal.at.apply_take-requires c).Else-not-long_enough) b)

pub overflow_mul-result : goal.overflow_mul-result
overflow_mul-result c = omega (arith, offset (goal.at.overflow_mul-result c).In_ok-p)

pub overflow_add-result : goal.overflow_add-result
overflow_add-result c = omega (arith, offset (goal.at.overflow_add-result c).In_ok-p)

pub overflow_mul-result-2 : goal.overflow_mul-result-2
overflow_mul-result-2 c = omega (arith, offset (goal.at.overflow_mul-result-2 c).In_ok-p)

pub returns : goal.returns
returns c =
    let s = c.args in
    allocate_done _ _ _ s.size s.align c.well_formed.0.0 (long (goal.at.returns c).Else-not-long_enough) c.in_ok-asked.asked c.in_ok-asked.ensures
    c.in_ok-p.p c.in_ok-p.ensures _ _ _ c.apply_take.ensures
