-- `stamps::down_tags`: its four parts, one after the other.
use Prim.Native.Nat.{◌+◌, ◌-◌}
use Rattle.tags.specs.Writes.{allocate_tags}
use Rattle.stamps.specs.Stores.{then}
use Rattle.stamps.proofs.down_tags.Goals as goal

pub returns : goal.returns
returns c =
    let g = c.args in
    then _ _ _ _ _ c.clear_pad.ensures
    (then _ _ _ _ _ c.clear_after.ensures
    (then _ _ _ _ (allocate_tags (g.x - g.a) (g.a + (g.s + g.b)) g.k g.d) c.clear_before.ensures c.allocate_tags.ensures))
