-- `free_list::unlink`: the writes of the two parts, one after the other.
use Rattle.free_list.specs.Lent.{leads_keep}
use Rattle.free_list.specs.Written.{written_length, written_room}
use Rattle.free_list.specs.Moves.{unlinked}
use Rattle.free_list.proofs.unlink.Goals as goal

pub join_prev-requires : goal.join_prev-requires
join_prev-requires c =
    let e = written_length c.join_next.ensures in
    (written_room c.args.k c.join_next.ensures c.requires.0, leads_keep _ _ c.args.x e c.requires.1, leads_keep _ _ c.args.p e c.requires.2)

pub returns : goal.returns
returns c =
    unlinked c.args.k c.args.x c.args.p c.join_next.ensures c.join_prev.ensures
