-- `machine::guard_next`: the sum that wraps is the guard word.
use Rattle.std.proofs.Common.{rules}
use Rattle.machine.specs.Machine.{guard_next}
use Rattle.machine.proofs.guard_next.Goals as goal

pub returns : goal.returns
unfolding guard_next
returns c = search rules
