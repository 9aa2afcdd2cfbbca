-- `lent::end_tag`: flags and count stand so.
use mathlib.Core.Path.{sym}
use Rattle.lent.proofs.TagWords.{end_word}
use Rattle.lent.proofs.end_tag.Goals as goal

pub returns : goal.returns
returns c = sym (end_word c.args.s)
