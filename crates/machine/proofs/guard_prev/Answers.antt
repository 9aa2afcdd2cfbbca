-- `machine::guard_prev`: the sum that wraps is the guard word.
use Rattle.std.proofs.Common.{rules}
use Rattle.machine.specs.Machine.{guard_prev}
use Rattle.machine.proofs.guard_prev.Goals as goal

pub returns : goal.returns
unfolding guard_prev
returns c = search rules
