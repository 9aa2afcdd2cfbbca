-- `reallocate::resize`: refused as its owner is, or as the stretch is; nothing to do, or written in place; else all hangs on
-- the move.
use native.Mathlib.Omega.{arith}
use Rattle.std.proofs.lemmas.Result.{err_from_is_err_and}
use Rattle.header.specs.Turned.{grains_few}
use Rattle.neighbours.specs.Shown.{grains_of}
use Rattle.reallocate.specs.Resize.{live_bit, Seated, owner_holds, keep_counts, carries_less, resize_unowned, resize_refused, resize_same, resize_fitted, resize_moved}
use Rattle.reallocate.proofs.resize.Goals as goal
use Rattle.reallocate.proofs.resize.Goals.{In_ok-o}

-- the payload is in its block, and the block in the arena
holds : (c : In_ok-o) → let s = c.args in Seated s.a.now s.q c.in_ok-o.o.at c.in_ok-o.o.grains
holds c = let s = c.args in owner_holds s.a.now s.live.now s.q c.in_ok-o.o c.in_ok-o.ensures

pub see_owner-requires : goal.see_owner-requires
see_owner-requires c =
    (live_bit c.args.a.now c.args.lists.now c.args.live.now c.args.q c.requires.2 c.requires.3, c.requires.3)

pub returns-in_err-o : goal.returns-in_err-o
returns-in_err-o c =
    let s = c.args in
    let p = err_from_is_err_and c.from_residual.result c.from_residual.ensures.1 in
    rw (p.1, p.2) (resize_unowned s.a.now s.lists.now s.live.now s.q s.length s.multiple c.in_err-o.field-0.0 c.in_err-o.ensures)

pub overflow_mul-o : goal.overflow_mul-o
overflow_mul-o c =
    omega (arith, (holds (goal.at.overflow_mul-o c).In_ok-o).inside, grains_few c.args.a.now c.well_formed.0.0)

pub overflow_sub-q : goal.overflow_sub-q
overflow_sub-q c = omega (arith, (holds (goal.at.overflow_sub-q c).In_ok-o).starts)

pub keeps_of-keep-requires : goal.keeps_of-keep-requires
keeps_of-keep-requires c =
    keep_counts c.args.a.now c.args.q _ _ (holds (goal.at.keeps_of-keep-requires c).In_ok-o) c.args.length c.well_formed.0.0 c.requires.1

pub plan_stretch-requires : goal.plan_stretch-requires
plan_stretch-requires c = ((holds (goal.at.plan_stretch-requires c).In_ok-o).inside, c.requires.2.heads)

pub returns-in_err-plan_stretch : goal.returns-in_err-plan_stretch
returns-in_err-plan_stretch c =
    let s = c.args in
    let p = err_from_is_err_and c.from_residual-in_err-plan_stretch.result c.from_residual-in_err-plan_stretch.ensures.1 in
    rw (p.1, p.2) (resize_refused s.a.now s.lists.now s.live.now s.q s.length s.multiple c.in_ok-o.o c.in_ok-o.ensures
    c.keeps_of-keep.result c.keeps_of-keep.ensures c.in_err-plan_stretch.field-0.0 c.in_err-plan_stretch.ensures)

pub returns-in-Same : goal.returns-in-Same
returns-in-Same c =
    let s = c.args in
    resize_same s.a.now s.lists.now s.live.now s.q s.length s.multiple c.in_ok-o.o c.in_ok-o.ensures
    c.keeps_of-keep.result c.keeps_of-keep.ensures (rw c.in-Same.is at c.in_ok-plan_stretch.ensures)

pub returns-in-Fitted : goal.returns-in-Fitted
returns-in-Fitted c =
    let s = c.args in
    resize_fitted s.a.now s.lists.now s.live.now s.q s.length s.multiple c.in_ok-o.o c.in_ok-o.ensures
    c.keeps_of-keep.result c.keeps_of-keep.ensures c.in-Fitted.p (rw c.in-Fitted.is at c.in_ok-plan_stretch.ensures) _ _ c.apply_stretch.ensures

pub move_payload-requires : goal.move_payload-requires
move_payload-requires c =
    let r = (rw c.in-Short.is at c.in_ok-plan_stretch.ensures).ready in
    let h = holds (goal.at.move_payload-requires c).In_ok-o in (
      c.requires.0,
      c.requires.2,
      r.0,
      c.requires.3,
      h.ends,
      carries_less c.args.a.now c.args.q _ _ h c.args.length c.keeps_of-keep.result (grains_of c.in-Short.behind) c.keeps_of-keep.ensures r.1,
    )

pub returns-in-Short : goal.returns-in-Short
returns-in-Short c =
    let s = c.args in
    resize_moved s.a.now s.lists.now s.live.now s.q s.length s.multiple c.in_ok-o.o c.in_ok-o.ensures
    c.keeps_of-keep.result c.keeps_of-keep.ensures c.in-Short.behind (rw c.in-Short.is at c.in_ok-plan_stretch.ensures) _ _ _ _ c.move_payload.ensures
