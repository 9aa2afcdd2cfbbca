-- The sum of eight bytes is the number.
use Rattle.std.proofs.Common.{◌∙◌}
use Rattle.word.specs.Spelled.{eight_is}
use Rattle.word.proofs.get.Goals as goal

pub returns : goal.returns
returns c = c.get_eight.ensures ∙ eight_is _ _
