-- The sum of four bytes is the number.
use Rattle.std.proofs.Common.{◌∙◌}
use Rattle.word.specs.Spelled.{four_is}
use Rattle.word.proofs.get4.Goals as goal

pub returns : goal.returns
returns c = c.get_four.ensures ∙ four_is _ _
