-- `firmheap::init`: tables, then they are made empty.
use native.Mathlib.Omega.{arith}
use Rattle.choice.specs.Says.{says_yes, says_no}
use Rattle.firmheap.specs.Begin.{init_short, init_none, init_done}
use Rattle.firmheap.proofs.init.Goals as goal

pub returns-then-not-long_enough : goal.returns-then-not-long_enough
returns-then-not-long_enough c =
    init_short _ _ _ _ c.well_formed.0.0 (says_no _ c.long_enough.result c.long_enough.ensures c.if-not-long_enough.true)

pub returns-then-regions-lt1 : goal.returns-then-regions-lt1
returns-then-regions-lt1 c =
    init_none _ _ _ _ c.well_formed.0.0 c.if-regions-lt1.true

pub init-requires : goal.init-requires
init-requires c =
    let e = says_yes _ c.long_enough.result c.long_enough.ensures c.if-not-long_enough.false in
    (e.heads, omega (arith, c.if-regions-lt1.false))

pub returns : goal.returns
returns c =
    init_done _ _ _ _ c.well_formed.0.0 _ _ _ (says_yes _ c.long_enough.result c.long_enough.ensures c.if-not-long_enough.false) c.if-regions-lt1.false c.well_formed.1.1.1.0.0 c.init.ensures
