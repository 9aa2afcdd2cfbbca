-- `bits::unmark_where` meets its contract: the word is fetched, changed or not, and stored. Assumes nothing.
use mathlib.Core.Path.{◌∙◌}
use Rattle.bits.proofs.Map.{unmark_where}
use Rattle.bits.proofs.unmark_where.Goals as goal

pub returns : goal.returns
returns c =
    c.store.ensures ∙ unmark_where _ _ _ _ c.fetch-m.result c.without_where.result c.fetch-m.ensures c.without_where.ensures
