-- `stretch::apply_stretch`: the neighbour leaves and the block is made, one after the other; both keep the lengths.
use native.Mathlib.Omega.{arith}
use Rattle.slices.proofs.Decode.{grains_keep}
use Rattle.header.specs.Turned.{grains_few}
use Rattle.free_list.specs.Lent.{leads_keep}
use Rattle.free_list.specs.Written.{written_length, written_room}
use Rattle.neighbours.specs.After.{leaving_of}
use Rattle.stretch.specs.Stored.{stretched}
use Rattle.stretch.proofs.apply_stretch.Goals as goal

pub overflow_add-t : goal.overflow_add-t
overflow_add-t c =
    omega (arith, c.requires.0.inside, c.grains_of.ensures, grains_few c.args.a.now c.well_formed.0.0)

pub put_left-requires : goal.put_left-requires
put_left-requires c =
    let w = leaving_of c.args.a.now c.args.p.behind in
    let e = written_length {w = w} c.leave.ensures in (
      omega (arith, c.requires.0.kept, c.grains_of.ensures),
      rw (c.grains_of.ensures, grains_keep 8 c.args.a.now _ e) c.requires.0.inside,
      λ n. let r = c.requires.0.rest (rw c.grains_of.ensures at n) in
          (written_room {w = w} c.args.p.list c.leave.ensures (record { known = r.0; room = c.requires.1 }), leads_keep c.args.a.now _ c.args.p.head e r.1),
    )

pub returns : goal.returns
returns c =
    let s = c.args in
    stretched s.a.now s.lists.now _ _ _ _ s.x s.s s.keep s.p c.leave.ensures (rw c.grains_of.ensures at c.put_left.ensures)
