-- `free_list::unlink_at`: the same writes as `unlink`'s, each made whether a link is none or not.
use native.Mathlib.Omega.{arith}
use mathlib.Core.Path.{ap, ◌∙◌}
use Rattle.choice.specs.Choice.{if_eq}
use Rattle.slices.proofs.Decode.{grains_keep}
use Rattle.free_list.specs.Lent.{no_link, leads_keep}
use Rattle.free_list.specs.Led.{led_length, led_other}
use Rattle.free_list.specs.Moves.{next_led, prev_led, unlinked}
use Rattle.free_list.proofs.unlink_at.Goals as goal

pub lead-requires-2 : goal.lead-requires-2
lead-requires-2 c =
    let a = c.args.a.now in
    let e = led_length a _ c.args.p _ c.args.x c.lead.ensures in
    (omega arith, rw (grains_keep 8 a _ e) c.requires.3, leads_keep a _ c.args.x e c.requires.1, led_other a _ c.args.p c.args.y c.args.x c.lead.ensures ∙ c.requires.4.1)

pub returns : goal.returns
returns c =
    let a = c.args.a.now in
    let x = c.args.x in
    let p = c.args.p in
    let e = led_length a _ p _ x c.lead.ensures in
    unlinked c.args.k x p
    (next_led a c.args.lists.now c.args.k x p c.well_formed.0.0 c.requires.1 c.requires.2 _ _ c.if_none-head.result c.lead.ensures (c.if_none-head.ensures ∙ ap (if_eq p no_link x) c.head_of.ensures) c.store.ensures)
    (prev_led _ _ c.args.k x p (rw e c.well_formed.0.0) (leads_keep a _ x e c.requires.1) (leads_keep a _ p e c.requires.2) _ _ c.if_none.result c.lead-2.ensures c.if_none.ensures c.unmark_where.ensures)
