-- `firmheap::deallocate`: tables, then offset and alignment, then not behind the arena, then the plan's refusal, or what was
-- planned is stored.
use Prim.Native.Nat.{◌/◌, ◌<◌}
use native.Mathlib.Omega.{arith}
use lib.ListN.{length}
use Rattle.std.proofs.lemmas.Result.{err_from_is_err_and}
use Rattle.choice.specs.Says.{says_yes, says_no}
use Rattle.slices.specs.Decode.{grains}
use Rattle.tables.specs.Length.{LongEnough}
use Rattle.firmheap.specs.Return.{back_inside, deallocate_short, deallocate_wrong, deallocate_outside, deallocate_refused, deallocate_done}
use Rattle.firmheap.proofs.deallocate.Goals as goal
use Rattle.firmheap.proofs.deallocate.Goals.{Else-count-q, Else-not-long_enough}

-- behind the first test the tables are long enough
long : (c : Else-not-long_enough) → let s = c.args in LongEnough (length s.arena.now) (length s.lists.now) (length s.live.now)
long c = says_yes _ c.long_enough.result c.long_enough.ensures c.if-not-long_enough.false

-- behind the second one the payload is not behind the arena
inside : (c : Else-count-q) → c.in_ok-q.q / 2 < grains 8 c.args.arena.now
inside c = omega (arith, c.count.ensures, c.if-count-q.false)

pub returns-then-not-long_enough : goal.returns-then-not-long_enough
returns-then-not-long_enough c =
    deallocate_short _ _ _ c.args.payload c.args.align c.well_formed.0.0 (says_no _ c.long_enough.result c.long_enough.ensures c.if-not-long_enough.true)

pub returns-in_err-q : goal.returns-in_err-q
returns-in_err-q c =
    let s = c.args in
    let p = err_from_is_err_and c.from_residual.result c.from_residual.ensures.1 in
    rw (p.1, p.2) (deallocate_wrong _ _ _ s.payload s.align c.well_formed.0.0 (long (goal.at.returns-in_err-q c).Else-not-long_enough) c.in_err-q.field-0.0 c.in_err-q.ensures)

pub returns-then-count-q : goal.returns-then-count-q
returns-then-count-q c =
    let s = c.args in
    deallocate_outside _ _ _ s.payload s.align c.well_formed.0.0 (long (goal.at.returns-then-count-q c).Else-not-long_enough) c.in_ok-q.q c.in_ok-q.ensures
    (omega (arith, c.count.ensures, c.if-count-q.true))

pub plan_back-requires : goal.plan_back-requires
plan_back-requires c =
    let e = long (goal.at.plan_back-requires c).Else-not-long_enough in
    let i = back_inside c.args.arena.now c.args.lists.now c.args.live.now c.in_ok-q.q e (inside (goal.at.plan_back-requires c).Else-count-q) in
    (i.0, i.1, e.heads)

pub returns-in_err-p : goal.returns-in_err-p
returns-in_err-p c =
    let s = c.args in
    let p = err_from_is_err_and c.from_residual-in_err-p.result c.from_residual-in_err-p.ensures.1 in
    rw (p.1, p.2) (deallocate_refused _ _ _ s.payload s.align c.well_formed.0.0 (long (goal.at.returns-in_err-p c).Else-not-long_enough) c.in_ok-q.q c.in_ok-q.ensures
    (inside (goal.at.returns-in_err-p c).Else-count-q) c.in_err-p.field-0.0 c.in_err-p.ensures)

pub apply_now-requires : goal.apply_now-requires
apply_now-requires c =
    let e = long (goal.at.apply_now-requires c).Else-not-long_enough in
    (c.in_ok-p.ensures.able, e.heads, (back_inside c.args.arena.now c.args.lists.now c.args.live.now c.in_ok-q.q e (inside (goal.at.apply_now-requires c).Else-count-q)).0)

pub returns : goal.returns
returns c =
    let s = c.args in
    deallocate_done _ _ _ s.payload s.align c.well_formed.0.0 (long (goal.at.returns c).Else-not-long_enough) c.in_ok-q.q c.in_ok-q.ensures
    (inside (goal.at.returns c).Else-count-q) c.in_ok-p.p c.in_ok-p.ensures _ _ _ c.apply_now.ensures
