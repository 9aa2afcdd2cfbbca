-- `lent::count`: the count stands below the flags.
use native.Mathlib.Omega.{arith}
use mathlib.Core.Path.{sym, ◌∙◌}
use Rattle.lent.proofs.TagWords.{tag_count}
use Rattle.lent.proofs.count.Goals as goal

pub returns : goal.returns
returns c = c.from.ensures ∙ sym (tag_count c.args.tag (omega arith))
