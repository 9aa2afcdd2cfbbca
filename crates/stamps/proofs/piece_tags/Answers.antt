-- `stamps::piece_tags`: a free block, and one write more.
use Rattle.stamps.specs.Stores.{stored, then}
use Rattle.stamps.proofs.piece_tags.Goals as goal

pub returns : goal.returns
returns c =
    then _ _ _ _ _ c.lay_free.ensures (stored _ _ _ _ _ c.start_tag.ensures c.put_tag.ensures)
