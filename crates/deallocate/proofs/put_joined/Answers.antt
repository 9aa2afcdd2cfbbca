-- `deallocate::put_joined`: the writes of the calls, one after the other; none of them changes a length.
use Rattle.sound.specs.Links.{push_writes}
use Rattle.slices.proofs.Decode.{grains_keep}
use Rattle.free_list.specs.Lent.{link}
use Rattle.free_list.specs.Written.{written_length}
use Rattle.deallocate.specs.Written.{returned}
use Rattle.deallocate.proofs.put_joined.Goals as goal

pub put_free-requires : goal.put_free-requires
put_free-requires c =
    rw (grains_keep 8 c.args.a.now _ (written_length c.push.ensures)) c.requires.0.inside

pub returns : goal.returns
returns c =
    let s = c.args in
    returned s.q s.p.at s.p.grains (push_writes s.p.list s.p.at (link s.a.now s.p.head)) c.push.ensures c.put_free.ensures c.clear_table_bit.ensures
