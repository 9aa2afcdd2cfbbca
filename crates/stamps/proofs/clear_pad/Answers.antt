-- `stamps::clear_pad`: no write, or one.
use native.Mathlib.Omega.{arith}
use Rattle.stamps.specs.Stores.{nothing, where_least, where_less}
use Rattle.stamps.proofs.clear_pad.Goals as goal

pub returns-then-p-lt2 : goal.returns-then-p-lt2
returns-then-p-lt2 c = where_less _ _ _ _ _ _ c.if-p-lt2.true (nothing _)

pub returns : goal.returns
returns c =
    where_least _ _ _ _ _ _ (omega (arith, c.if-p-lt2.false)) c.clear.ensures
