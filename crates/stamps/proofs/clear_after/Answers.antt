-- `stamps::clear_after`: no write, or one.
use Rattle.stamps.specs.Stores.{nothing, where_same, where_other}
use Rattle.stamps.proofs.clear_after.Goals as goal

pub returns-then-b-eq0 : goal.returns-then-b-eq0
returns-then-b-eq0 c = where_same _ _ _ _ _ _ c.if-b-eq0.true (nothing _)

pub returns : goal.returns
returns c =
    where_other _ _ _ _ _ _ c.if-b-eq0.false c.clear.ensures
