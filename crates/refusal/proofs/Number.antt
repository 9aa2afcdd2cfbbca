-- A refusal has a number that is not 0: 0 says that nothing was refused.
use Rattle.std.specs.Prelude.{◌<◌}
use Rattle.std.proofs.Common.{arith}
use Rattle.refusal.specs.Number.{number}
use Rattle.refusal.specs.declared.Refusal.{Refusal}
use Rattle.refusal.specs.declared.Refusal.TheVariants.{NoList, OutOfRange, NotLive, Misplaced, Damaged, TooShort}

pub number_some : (r : Refusal) → 0 < number r
number_some NoList = omega arith
number_some OutOfRange = omega arith
number_some NotLive = omega arith
number_some Misplaced = omega arith
number_some Damaged = omega arith
number_some TooShort = omega arith
