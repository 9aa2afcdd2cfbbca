-- `neighbours::leave_both`: one leaves and then the other; the first keeps the lengths.
use native.Mathlib.Omega.{arith}
use Rattle.free_list.specs.Written.{written_length, written_room}
use Rattle.neighbours.specs.After.{leaving_of}
use Rattle.neighbours.specs.Leaving.{known_keep, both_left}
use Rattle.neighbours.proofs.leave_both.Goals as goal

pub leave-requires-2 : goal.leave-requires-2
leave-requires-2 c =
    let w = leaving_of c.args.a.now c.args.behind in (
      known_keep c.args.a.now _ c.args.before (written_length {w = w} c.leave.ensures) c.requires.1,
      (written_room {w = w} 0 c.leave.ensures (record { known = omega arith; room = c.requires.2 })).room,
    )

pub returns : goal.returns
returns c =
    let s = c.args in
    both_left s.behind s.before c.leave.ensures c.leave-2.ensures
