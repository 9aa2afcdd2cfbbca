-- `region::lay_full` meets its contract. The loop's invariant: i pieces were laid out, and `head` is the word of the last
-- one, or of the old head. Assumes nothing.
use Prim.Native.Nat.{◌+◌, ◌*◌, ◌<◌}
use native.Mathlib.Omega.{arith}
use mathlib.Core.Path.{◌≡◌, refl, ◌∙◌}
use Rattle.header.specs.Turned.{grains_few}
use Rattle.region.specs.Pieces.{laid_none, next_placeable, laid_more}
use Rattle.region.proofs.lay_full.Goals as goal
use Rattle.region.proofs.lay_full.Goals.{In-loop-i}

-- the next piece starts at a grain
small : (c : In-loop-i) → c.args.g + 4096 * c.loop-i.i < 576460752303423488
small c = omega (arith, c.requires.inside, grains_few c.args.a.now c.well_formed.0.0)

pub loop-i-init : goal.loop-i-init
loop-i-init c = record { arena = refl; lists = refl; laid = laid_none c.args.a.now c.args.lists.now c.args.g c.args.h c.requires.before }

pub overflow_mul-x : goal.overflow_mul-x
overflow_mul-x c = omega (arith, small (goal.at.overflow_mul-x c).In-loop-i)

pub overflow_add-x : goal.overflow_add-x
overflow_add-x c = omega (arith, small (goal.at.overflow_add-x c).In-loop-i)

pub lay_piece-requires : goal.lay_piece-requires
lay_piece-requires c =
    let v = c.loop-i.invariant in
    next_placeable c.args.a.now c.args.lists.now c.args.g c.args.h c.loop-i.i c.args.count c.loop-i.head _ _
    c.requires (omega arith) v.arena v.lists v.laid

pub bytes_of-head-requires : goal.bytes_of-head-requires
bytes_of-head-requires c = small (goal.at.bytes_of-head-requires c).In-loop-i

pub loop-i-preserved : goal.loop-i-preserved
loop-i-preserved c =
    let v = c.loop-i.invariant in record {
      arena = c.lay_piece.auto.a ∙ v.arena;
      lists = c.lay_piece.auto.lists ∙ v.lists;
      laid = laid_more c.args.a.now c.args.lists.now c.args.g c.args.h c.loop-i.i c.args.count c.loop-i.head _ _
          c.requires (omega arith) v.arena v.lists v.laid c.well_formed.0.0 c.bytes_of-head.result _ _ c.bytes_of-head.ensures c.lay_piece.auto.a c.lay_piece.ensures;
    }

pub returns : goal.returns
returns c =
    let e : c.loop-i.i ≡ c.args.count = omega arith in
    rw (← e) c.loop-i.invariant.laid.written
