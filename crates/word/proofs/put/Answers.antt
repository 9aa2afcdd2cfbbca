-- The eight stores put the number.
use Rattle.std.proofs.Common.{◌∙◌}
use Rattle.word.specs.Spelled.{eight_put_is}
use Rattle.word.proofs.put.Goals as goal

pub returns : goal.returns
returns c = c.put_eight.ensures ∙ eight_put_is _ _ _
