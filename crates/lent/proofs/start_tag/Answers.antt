-- `lent::start_tag`: flags and count stand so.
use mathlib.Core.Path.{sym}
use Rattle.lent.proofs.TagWords.{start_word}
use Rattle.lent.proofs.start_tag.Goals as goal

pub returns : goal.returns
returns c = sym (start_word c.args.s)
