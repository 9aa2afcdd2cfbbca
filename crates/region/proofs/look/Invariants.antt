use Rattle.region.specs.Look.{said, Passed}
use Rattle.region.proofs.look.Given as goal

abbrev pub invariant-loop-i : goal.invariant-loop-i
invariant-loop-i l = Passed l.regions l.n l.g l.len l.count l.i (said (record { meets = l.meets; wrong = l.wrong }))
