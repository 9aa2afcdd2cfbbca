-- `class::top_bit` meets its contract: the library's logarithm lies between the same two powers. Assumes nothing.
use native.Mathlib.Omega.{arith}
use Rattle.std.proofs.Common.{add-one}
use mathlib.Core.Path.{sym, ◌∙◌}
use Rattle.class.proofs.Log.{log_is}
use Rattle.class.proofs.top_bit.Goals as goal

pub returns : goal.returns
returns c =
    c.from.ensures
    ∙ sym (log_is c.args.x c.ilog2.result c.ilog2.ensures.power_le (rw add-one (omega (arith, c.ilog2.ensures.next_power_gt))))
