-- `free_list::leads_back`: the word that is due is there, or isn't.
use native.Mathlib.Omega.{arith}
use mathlib.Core.Path.{ap, ◌∙◌}
use Rattle.choice.specs.Choice.{if_eq}
use Rattle.free_list.specs.Lent.{no_link}
use Rattle.free_list.specs.Back.{back_far, back_due}
use Rattle.free_list.proofs.leads_back.Goals as goal

pub returns-then-count-g : goal.returns-then-count-g
returns-then-count-g c =
    back_far c.args.a.now c.args.f c.args.x c.args.y c.grain_or-g.result c.requires.1 c.grain_or-g.ensures (omega arith)

pub returns : goal.returns
returns c =
    back_due c.args.a.now c.args.f c.args.x c.args.y c.grain_or-g.result c.requires.1 c.grain_or-g.ensures c.well_formed.0.0 (omega arith)
    c.field-own.result c.field.result c.if_none.result c.field-own.ensures c.field.ensures (c.if_none.ensures ∙ ap (if_eq c.args.x no_link c.field-own.result) c.bytes_of.ensures)
