-- `firmheap::reallocate`: tables, then numbers, then offset and alignment, then not behind the arena, then what the resize in
-- half grains says.
use Prim.Native.Nat.{◌/◌, ◌<◌}
use native.Mathlib.Omega.{arith}
use lib.ListN.{length}
use Rattle.std.proofs.lemmas.Result.{err_from_is_err_and}
use Rattle.choice.specs.Says.{says_yes, says_no}
use Rattle.slices.specs.Decode.{grains}
use Rattle.tables.specs.Length.{LongEnough}
use Rattle.firmheap.specs.Resize.{reallocate_short, reallocate_wrong, reallocate_demand, reallocate_unsuited, reallocate_outside, reallocate_done, reallocate_offset}
use Rattle.firmheap.proofs.reallocate.Goals as goal
use Rattle.firmheap.proofs.reallocate.Goals.{Else-count-q, Else-not-long_enough}

-- behind the first test the tables are long enough
long : (c : Else-not-long_enough) → let s = c.args in LongEnough (length s.arena.now) (length s.lists.now) (length s.live.now)
long c = says_yes _ c.long_enough.result c.long_enough.ensures c.if-not-long_enough.false

-- behind the second one the payload is not behind the arena
inside : (c : Else-count-q) → c.in_ok-q.q / 2 < grains 8 c.args.arena.now
inside c = omega (arith, c.count.ensures, c.if-count-q.false)

pub returns-then-not-long_enough : goal.returns-then-not-long_enough
returns-then-not-long_enough c =
    reallocate_short _ _ _ c.args.payload c.args.size c.args.align c.well_formed.0.0 (says_no _ c.long_enough.result c.long_enough.ensures c.if-not-long_enough.true)

pub returns-in_err-asked : goal.returns-in_err-asked
returns-in_err-asked c =
    let s = c.args in
    let p = err_from_is_err_and c.from_residual.result c.from_residual.ensures.1 in
    rw (p.1, p.2) (reallocate_wrong _ _ _ s.payload s.size s.align c.well_formed.0.0 (long (goal.at.returns-in_err-asked c).Else-not-long_enough) c.in_err-asked.field-0.0 c.in_err-asked.ensures)

pub returns-in_err-q : goal.returns-in_err-q
returns-in_err-q c =
    let s = c.args in
    let p = err_from_is_err_and c.from_residual-in_err-q.result c.from_residual-in_err-q.ensures.1 in
    rw (p.1, p.2) (reallocate_unsuited _ _ _ s.payload s.size s.align c.well_formed.0.0 (long (goal.at.returns-in_err-q c).Else-not-long_enough) c.in_ok-asked.asked c.in_ok-asked.ensures
    c.in_err-q.field-0.0 c.in_err-q.ensures)

pub returns-then-count-q : goal.returns-then-count-q
returns-then-count-q c =
    let s = c.args in
    reallocate_outside _ _ _ s.payload s.size s.align c.well_formed.0.0 (long (goal.at.returns-then-count-q c).Else-not-long_enough) c.in_ok-asked.asked c.in_ok-asked.ensures
    c.in_ok-q.q c.in_ok-q.ensures (omega (arith, c.count.ensures, c.if-count-q.true))

pub resize-requires : goal.resize-requires
resize-requires c =
    let s = c.args in
    let e = long (goal.at.resize-requires c).Else-not-long_enough in
    let d = reallocate_demand s.arena.now s.lists.now s.live.now s.payload s.size s.align c.well_formed.0.0 e c.in_ok-asked.asked c.in_ok-asked.ensures in
    (d.0, d.1, e, omega (arith, inside (goal.at.resize-requires c).Else-count-q))

pub returns-in_err-at : goal.returns-in_err-at
returns-in_err-at c =
    let s = c.args in
    let p = err_from_is_err_and c.from_residual-in_err-at.result c.from_residual-in_err-at.ensures.1 in
    rw (p.1, p.2) (reallocate_done _ _ _ s.payload s.size s.align c.well_formed.0.0 (long (goal.at.returns-in_err-at c).Else-not-long_enough) c.in_ok-asked.asked c.in_ok-asked.ensures
    c.in_ok-q.q c.in_ok-q.ensures (inside (goal.at.returns-in_err-at c).Else-count-q) _ _ _ _ c.in_err-at.ensures)

pub overflow_mul-result : goal.overflow_mul-result
overflow_mul-result c =
    let s = c.args in
    omega (
      arith,
      reallocate_offset s.arena.now s.lists.now s.live.now s.payload s.size s.align c.well_formed.0.0 (long (goal.at.overflow_mul-result c).Else-not-long_enough)
          c.in_ok-asked.asked c.in_ok-asked.ensures c.in_ok-q.q c.in_ok-q.ensures (inside (goal.at.overflow_mul-result c).Else-count-q) c.in_ok-at.at _ _ _ c.in_ok-at.ensures,
    )

pub returns : goal.returns
returns c =
    let s = c.args in
    reallocate_done _ _ _ s.payload s.size s.align c.well_formed.0.0 (long (goal.at.returns c).Else-not-long_enough) c.in_ok-asked.asked c.in_ok-asked.ensures
    c.in_ok-q.q c.in_ok-q.ensures (inside (goal.at.returns c).Else-count-q) _ _ _ _ c.in_ok-at.ensures
