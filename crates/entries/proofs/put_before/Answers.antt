-- `entries::put_before`: the three words, one after the other.
use Rattle.lent.proofs.Kept.{prev_grains}
use Rattle.entries.proofs.put_before.Goals as goal

pub put_prev-requires-2 : goal.put_prev-requires-2
put_prev-requires-2 c =
    rw c.put_prev.ensures (prev_grains c.args.a.now c.args.h c.args.y c.args.y c.requires.0)

pub put_next-requires : goal.put_next-requires
put_next-requires c =
    rw (c.put_prev-2.ensures, c.put_prev.ensures) (prev_grains _ c.args.y c.args.y c.args.y (prev_grains c.args.a.now c.args.h c.args.y c.args.y c.requires.0))
