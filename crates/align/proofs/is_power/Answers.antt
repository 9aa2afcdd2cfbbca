-- `align::is_power` meets its contract: a 1 shifted up to the lowest bit set is the number where it is the only one. Assumes
-- nothing.
use Rattle.align.proofs.CodeLaws.{test_said}
use Rattle.align.proofs.is_power.Goals as goal

pub returns-then-a-ne0 : goal.returns-then-a-ne0
returns-then-a-ne0 c = test_said c.args.a c.ranges.a.fits c.if-a-ne0.true
