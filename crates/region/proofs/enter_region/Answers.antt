-- `region::enter_region` meets its contract: three numbers stored, one after the other. Assumes nothing.
use Prim.Native.Nat.{suc, ◌+◌}
use native.Mathlib.Omega.{arith}
use mathlib.Core.Path.{◌≡◌, ◌∙◌}
use Rattle.region.specs.Entered.{with_region}
use Rattle.region.proofs.enter_region.Goals as goal

pub returns : goal.returns
unfolding with_region
returns c =
    let z : c.number-r.result + 1 ≡ suc c.number-r.result = omega arith in
    c.store-3.ensures ∙ rw (c.store-2.ensures, c.store.ensures, z, c.number-r.ensures)
