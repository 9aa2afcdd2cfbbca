use Prim.Native.Nat.{◌*◌}
use Rattle.copy.specs.Moved.{Moved}
use Rattle.copy.proofs.grains_ascending.Given as goal

abbrev pub invariant-loop-i : goal.invariant-loop-i
invariant-loop-i l = Moved l.initial.a l.from l.to (32 * l.i) l.a
