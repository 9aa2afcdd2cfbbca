-- `header::is_busy`: a used block is busy, and where there is none the sentinel's word decides.
use mathlib.Core.Path.{sym, ◌∙◌}
use Rattle.header.specs.Told.{busy_last}
use Rattle.header.proofs.is_busy.Goals as goal

pub returns-else-is_some : goal.returns-else-is_some
returns-else-is_some c =
    busy_last c.args.a.now c.args.g c.field.result c.requires c.field.ensures c.used_at.result c.used_at.ensures (sym c.is_some.ensures ∙ c.if-is_some.false)
