-- `lent::free_tag`: flags and count stand so.
use mathlib.Core.Path.{sym}
use Rattle.lent.proofs.TagWords.{free_word_lem}
use Rattle.lent.proofs.free_tag.Goals as goal

pub returns : goal.returns
returns c = sym (free_word_lem c.args.s)
