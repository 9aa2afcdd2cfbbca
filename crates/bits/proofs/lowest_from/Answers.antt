-- `bits::lowest_from` meets its contract: what the shift leaves is 0, or its zeros lead to the bit. Assumes nothing.
use native.Mathlib.Omega.{arith}
use mathlib.Core.Path.{sym}
use Rattle.bits.proofs.Zeros.{none_left, some_left}
use Rattle.bits.proofs.lowest_from.Goals as goal

pub returns-then-rest-eq0 : goal.returns-then-rest-eq0
returns-then-rest-eq0 c = (sym (none_left c.args.m c.args.i (omega arith) c.if-rest-eq0.true), tt)

pub returns : goal.returns
returns c =
    let s = some_left c.args.m c.args.i c.requires c.ranges.m.fits c.if-rest-eq0.false in
    (sym s.1, s.0)
