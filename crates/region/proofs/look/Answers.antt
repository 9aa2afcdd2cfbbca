-- `region::look` meets its contract. The loop's invariant: the script, from entry i on with what was found so far, answers
-- as the whole script does. Assumes nothing.
use native.Mathlib.Omega.{arith}
use Rattle.choice.specs.Says.{says_yes, says_no}
use Rattle.region.specs.Look.{passed_all, passed_stop, passed_more}
use Rattle.region.proofs.look.Goals as goal

pub returns-then-overlaps : goal.returns-then-overlaps
returns-then-overlaps c =
    let a = c.args in
    passed_stop a.regions.now a.n a.g a.len a.count c.loop-i.i c.number-first.result c.number-end.result
    (record { meets = c.loop-i.meets; wrong = c.loop-i.wrong }) (omega arith) c.number-first.ensures c.number-end.ensures c.loop-i.invariant
    (says_yes _ c.overlaps.result c.overlaps.ensures c.if-overlaps.true)

pub loop-i-preserved : goal.loop-i-preserved
loop-i-preserved c =
    let a = c.args in
    passed_more a.regions.now a.n a.g a.len a.count c.loop-i.i c.number-first.result c.number-end.result
    (record { meets = c.loop-i.meets; wrong = c.loop-i.wrong }) (omega arith) c.number-first.ensures c.number-end.ensures c.loop-i.invariant
    (says_no _ c.overlaps.result c.overlaps.ensures c.if-overlaps.false) c.is_wrong-wrong.result c.is_wrong-wrong.ensures

pub returns : goal.returns
returns c =
    let a = c.args in
    passed_all a.regions.now a.n a.g a.len a.count c.loop-i.i _ (omega arith) c.loop-i.invariant
