-- `stamps::clear`: one write.
use mathlib.Core.Path.{sym}
use Rattle.lent.proofs.TagWords.{zero_word}
use Rattle.stamps.specs.Stores.{stored}
use Rattle.stamps.proofs.clear.Goals as goal

pub returns : goal.returns
returns c = stored _ _ _ _ _ (sym zero_word) c.put_tag.ensures
