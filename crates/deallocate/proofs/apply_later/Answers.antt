-- `deallocate::apply_later`: the neighbours leave, and the joined block is put; none of it changes a length.
use Rattle.neighbours.specs.Leaving.{both_leaving}
use Rattle.deallocate.specs.Written.{able_after, joined_after}
use Rattle.deallocate.proofs.apply_later.Goals as goal

pub put_joined-requires : goal.put_joined-requires
put_joined-requires c =
    let k = able_after {w = both_leaving c.args.a.now c.args.p.behind c.args.p.before} c.args.p c.leave_both.ensures c.requires.0 c.requires.1 in
    (k.0, k.1, c.requires.2)

pub returns : goal.returns
returns c =
    let s = c.args in
    joined_after s.q s.p c.leave_both.ensures c.put_joined.ensures
