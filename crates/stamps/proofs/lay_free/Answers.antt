-- `stamps::lay_free`: two writes.
use Rattle.stamps.specs.Stores.{stored, then}
use Rattle.stamps.proofs.lay_free.Goals as goal

pub returns : goal.returns
returns c =
    then _ _ _ _ _ (stored _ _ _ _ _ c.end_tag.ensures c.put_tag.ensures)
    (stored _ _ _ _ _ c.free_tag.ensures c.put_tag-2.ensures)
