-- `stamps::deallocate_tags`: its four parts, one after the other.
use Rattle.stamps.specs.Stores.{then}
use Rattle.stamps.proofs.deallocate_tags.Goals as goal

pub returns : goal.returns
returns c =
    then _ _ _ _ _ c.clear_pad.ensures (then _ _ _ _ _ c.clear_after.ensures (then _ _ _ _ _ c.clear_before.ensures c.lay_free.ensures))
