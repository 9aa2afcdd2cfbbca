-- `free_list::push`: the writes of the three parts, one after the other.
use Rattle.slices.proofs.Decode.{grains_keep}
use Rattle.free_list.specs.Written.{written_length}
use Rattle.free_list.specs.Moves.{pushed}
use Rattle.free_list.proofs.push.Goals as goal

pub put_entry-requires : goal.put_entry-requires
put_entry-requires c =
    rw (grains_keep 8 c.args.a.now _ (written_length c.join_head.ensures)) c.requires.0

pub returns : goal.returns
returns c =
    pushed c.args.a.now c.args.lists.now c.args.k c.args.y c.args.h c.well_formed.0.0 c.requires.0 c.requires.2 c.bytes_of.result c.bytes_of.ensures c.join_head.ensures c.put_entry.ensures c.store.ensures
