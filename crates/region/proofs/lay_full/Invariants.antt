use mathlib.Core.Path.{◌≡◌}
use lib.ListN.{length}
use Rattle.region.specs.Pieces.{Laid}
use Rattle.region.proofs.lay_full.Given as goal

abbrev pub invariant-loop-i : goal.invariant-loop-i
invariant-loop-i l = record {
  arena : length l.a ≡ length l.initial.a;
  lists : length l.lists ≡ length l.initial.lists;
  laid : Laid l.initial.a l.initial.lists l.g l.h l.i l.head l.a l.lists;
}
