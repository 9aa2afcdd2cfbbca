-- `bits::first_of_word` meets its contract: a word's bits are a part of the map. Assumes nothing.
use native.Mathlib.Omega.{arith}
use mathlib.Core.Path.{◌∙◌}
use Rattle.bits.proofs.Search.{of_word}
use Rattle.bits.proofs.first_of_word.Goals as goal

pub returns-in_err-b : goal.returns-in_err-b
returns-in_err-b c =
    rw c.from_residual.ensures
    (omega arith ∙ of_word c.args.t.now c.args.k c.fetch.result 64 c.requires.1 c.fetch.ensures c.in_err-b.ensures.0, tt)

pub returns : goal.returns
returns c =
    (of_word c.args.t.now c.args.k c.fetch.result c.in_ok-b.b c.requires.1 c.fetch.ensures c.in_ok-b.ensures.0, omega (arith, c.in_ok-b.ensures.1))
