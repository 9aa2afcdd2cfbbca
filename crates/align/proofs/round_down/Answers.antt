-- `align::round_down` meets its contract: shifting down and up again gives the last multiple at or before x. Assumes nothing.
use Rattle.align.proofs.CodeLaws.{round_down_code}
use Rattle.align.proofs.round_down.Goals as goal

pub returns : goal.returns
returns c = round_down_code c.args.x c.args.a c.ranges.x.fits c.ranges.a.fits c.requires
