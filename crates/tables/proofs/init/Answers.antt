-- `tables::init` meets its contract: all of the live table is filled. Assumes nothing.
use mathlib.Core.Path.{◌∙◌}
use Rattle.tables.proofs.Fill.{filled_all}
use Rattle.tables.proofs.init.Goals as goal

pub returns : goal.returns
returns c = record { heads = c.empty_lists.ensures; bits = c.fill.ensures ∙ filled_all c.args.live.now 0; count = c.store.ensures }
