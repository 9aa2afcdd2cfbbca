-- `slide::apply_down`: the block is made, then its pad, and then the live bits are turned; none of them changes a length.
use Rattle.slices.proofs.Decode.{grains_keep}
use Rattle.free_list.specs.Written.{written_length}
use Rattle.slide.specs.Stored.{moved_down}
use Rattle.slide.proofs.apply_down.Goals as goal

pub put_pad-requires : goal.put_pad-requires
put_pad-requires c =
    (c.requires.0.some, rw (grains_keep 8 c.args.a.now _ (written_length c.put_left.ensures)) c.requires.0.pad)

pub returns : goal.returns
returns c =
    let s = c.args in
    moved_down s.a.now s.lists.now s.live.now _ _ _ _ _ s.q s.p c.put_left.ensures c.put_pad.ensures c.clear_table_bit.ensures c.set_table_bit.ensures
