-- `lent::flags_of`: the flags stand above the count.
use native.Mathlib.Omega.{arith}
use mathlib.Core.Path.{sym}
use Rattle.lent.proofs.TagWords.{tag_flags}
use Rattle.lent.proofs.flags_of.Goals as goal

pub returns : goal.returns
returns c = sym (tag_flags c.args.tag (omega arith))
