-- `request::place_of`: the mask cuts out what the block's start is beyond a multiple.
use Rattle.request.specs.Placed.{place_masked}
use Rattle.request.proofs.place_of.Goals as goal

pub returns : goal.returns
returns c = place_masked c.args.multiple c.args.y c.requires.0
