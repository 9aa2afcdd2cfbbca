-- `free_list::lead`: the word of y is put as it is, or another's is put.
use mathlib.Core.Path.{◌∙◌}
use Rattle.free_list.specs.Led.{led_grain, led_put}
use Rattle.free_list.proofs.lead.Goals as goal

pub put_field-requires : goal.put_field-requires
put_field-requires c =
    (led_grain c.args.a.now c.args.w c.args.y c.grain_or.result c.grain_or.ensures c.requires.1 c.requires.2, c.requires.0)

pub returns : goal.returns
returns c =
    c.put_field.ensures
    ∙ led_put c.args.a.now c.args.w c.args.y c.grain_or.result c.grain_or.ensures c.args.f c.args.v (λ i. (c.slice_known-1.given i).fits) c.requires.3
