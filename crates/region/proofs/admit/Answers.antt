-- `region::admit` meets its contract: each return is one law of what is asked before the look, the last one of what the
-- look decides. Assumes nothing.
use native.Mathlib.Omega.{arith}
use mathlib.Core.Path.{refl}
use Rattle.region.specs.Admit.{answer_full, answer_short, answer_outside, answer_over, answer_beside}
use Rattle.region.proofs.admit.Goals as goal

pub returns-then-count-most : goal.returns-then-count-most
returns-then-count-most c =
    let s = c.args in
    answer_full s.regions.now s.behind s.n s.g s.len _ c.number-count.result refl c.number-count.ensures c.if-count-most.true

pub returns-then-len-lt2 : goal.returns-then-len-lt2
returns-then-len-lt2 c =
    let s = c.args in
    answer_short s.regions.now s.behind s.n s.g s.len _ c.number-count.result refl c.number-count.ensures c.if-count-most.false (omega arith)

pub returns-then-n-g : goal.returns-then-n-g
returns-then-n-g c =
    let s = c.args in
    answer_outside s.regions.now s.behind s.n s.g s.len _ c.number-count.result refl c.number-count.ensures c.if-count-most.false (omega arith) (omega arith)

pub returns-then-n-g-2 : goal.returns-then-n-g-2
returns-then-n-g-2 c =
    let s = c.args in
    answer_outside s.regions.now s.behind s.n s.g s.len _ c.number-count.result refl c.number-count.ensures c.if-count-most.false (omega arith) (omega arith)

pub returns-then-most-count : goal.returns-then-most-count
returns-then-most-count c =
    let s = c.args in
    answer_over s.regions.now s.behind s.n s.g s.len _ c.number-count.result refl c.number-count.ensures c.if-count-most.false (omega arith) (omega arith) (omega arith)

pub returns : goal.returns
returns c =
    let s = c.args in
    answer_beside s.regions.now s.behind s.n s.g s.len _ c.number-count.result refl c.number-count.ensures c.if-count-most.false (omega arith) (omega arith) (omega arith)
    c.admit_beside.result c.admit_beside.ensures
