-- `stamps::stretch_tags`: its two parts, one after the other.
use Rattle.stamps.specs.Stores.{then}
use Rattle.stamps.proofs.stretch_tags.Goals as goal

pub returns : goal.returns
returns c =
    then _ _ _ _ _ c.clear_room.ensures c.split.ensures
