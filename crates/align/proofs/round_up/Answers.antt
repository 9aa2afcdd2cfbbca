-- `align::round_up` meets its contract: shifting down and up again gives the first multiple at or after x. Assumes nothing.
use Rattle.align.proofs.CodeLaws.{round_up_code}
use Rattle.align.proofs.round_up.Goals as goal

pub returns : goal.returns
returns c = round_up_code c.args.x c.args.a c.requires.0 c.requires.1
