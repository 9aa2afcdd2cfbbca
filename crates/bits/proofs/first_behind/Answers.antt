-- `bits::first_behind` meets its contract: the words behind the first and the second are left, and behind the third none.
-- Assumes nothing.
use native.Mathlib.Omega.{arith}
use Prim.Native.Nat.{◌*◌, ◌+◌}
use Rattle.std.proofs.Common.{rules}
use Rattle.bits.proofs.Search.{goes_on, at_end_lem}
use Rattle.bits.proofs.first_behind.Goals as goal

pub returns-in-0 : goal.returns-in-0
returns-in-0 c = rw c.in-0.is (goes_on c.args.t.now 64 c.first_of_word.result c.or_else.result _ (omega arith) c.first_of_word.ensures c.or_else.ensures (λ p. search rules))

pub returns-in_default : goal.returns-in_default
returns-in_default c = (at_end_lem c.args.t.now (64 * (c.args.i + 1)) (omega (arith, c.in_default)) (omega (arith, c.requires.1)), tt)
