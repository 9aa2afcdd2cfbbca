-- The four stores put the number.
use Rattle.std.proofs.Common.{◌∙◌}
use Rattle.word.specs.Spelled.{four_put_is}
use Rattle.word.proofs.put4.Goals as goal

pub returns : goal.returns
returns c = c.put_four.ensures ∙ four_put_is _ _ _
