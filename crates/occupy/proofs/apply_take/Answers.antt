-- `occupy::apply_take`: the four steps, one after the other; each keeps the lengths.
use native.Mathlib.Omega.{arith}
use mathlib.Core.Path.{refl, ◌∙◌}
use mathlib.Core.Logic.{inl}
use Rattle.slices.proofs.Decode.{grains_keep}
use Rattle.free_list.specs.Lent.{leads_keep}
use Rattle.free_list.specs.Written.{written_length, written_room}
use Rattle.occupy.specs.Taken.{take_made}
use Rattle.occupy.proofs.apply_take.Goals as goal

pub unlink_at-requires : goal.unlink_at-requires
unlink_at-requires c =
    let b = c.requires.bounds in
    (b.list, b.next, inl refl, omega (arith, b.block), b.holds)

pub put_left-requires : goal.put_left-requires
put_left-requires c =
    let b = c.requires.bounds in
    let e = written_length c.unlink_at.ensures in (
      b.kept,
      rw (grains_keep 8 c.args.a.now _ e) b.block,
      λ n. let r = b.rest n in (written_room c.args.p.rest_list c.unlink_at.ensures r.0, leads_keep c.args.a.now _ c.args.p.head e r.1),
    )

pub put_pad-requires : goal.put_pad-requires
put_pad-requires c =
    let b = c.requires.bounds in
    (b.some, rw (grains_keep 8 c.args.a.now _ (written_length c.put_left.ensures ∙ written_length c.unlink_at.ensures)) b.pad)

pub returns : goal.returns
returns c =
    take_made c.args.a.now c.args.lists.now c.args.live.now _ _ _ _ _ _ c.args.p c.well_formed.0.0
    c.unlink_at.ensures c.put_left.ensures c.put_pad.ensures c.set_table_bit.ensures
