-- `lent::pad_tag`: flags and count stand so.
use mathlib.Core.Path.{sym}
use Rattle.lent.proofs.TagWords.{pad_word}
use Rattle.lent.proofs.pad_tag.Goals as goal

pub returns : goal.returns
returns c = sym (pad_word c.args.p)
