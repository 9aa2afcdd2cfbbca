-- `stamps::allocate_tags`: its three parts, one after the other.
use Rattle.tags.specs.Writes.{lay_pad_tags, split_tags}
use Rattle.stamps.specs.Stores.{then}
use Rattle.stamps.proofs.allocate_tags.Goals as goal

pub returns : goal.returns
returns c =
    let g = c.args in
    then _ _ _ _ _ c.clear.ensures
    (then _ _ _ (lay_pad_tags g.x g.d) (split_tags g.x g.s g.k g.d) c.lay_pad.ensures c.split.ensures)
