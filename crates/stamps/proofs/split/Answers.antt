-- `stamps::split`: one write, and where grains are left those of a free block.
use Rattle.stamps.specs.Stores.{stored, then, where_same, where_other}
use Rattle.stamps.proofs.split.Goals as goal

pub returns-then-k-s : goal.returns-then-k-s
returns-then-k-s c =
    where_same _ _ _ _ _ _ c.if-k-s.true (stored _ _ _ _ _ c.first_tag.ensures c.put_tag.ensures)

pub returns : goal.returns
returns c =
    where_other _ _ _ _ _ _ c.if-k-s.false (then _ _ _ _ _ (stored _ _ _ _ _ c.first_tag.ensures c.put_tag.ensures) c.lay_free.ensures)
