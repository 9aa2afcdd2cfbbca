-- `copy::last_half` meets its contract: nothing is moved, or two words are read and then put one behind the other. Assumes
-- nothing.
use Prim.Native.Nat.{◌*◌}
use native.Mathlib.Omega.{arith}
use mathlib.Core.Path.{◌≡◌}
use Rattle.copy.specs.Moved.{moved_none}
use Rattle.copy.specs.Words.{half_copied}
use Rattle.copy.proofs.last_half.Goals as goal

pub returns-then-n-eq0 : goal.returns-then-n-eq0
returns-then-n-eq0 c = moved_none _ _ _ _ (omega (arith, c.if-n-eq0.true))

pub returns : goal.returns
returns c =
    let one : 16 * c.args.n ≡ 16 = omega (arith, c.if-n-eq0.false, c.requires.0) in
    rw (one, c.put-2.ensures, c.put.ensures, c.get-w.ensures, c.get-v.ensures)
    (half_copied _ _ _ _ (λ j. (c.slice_known-1.given j).fits))
