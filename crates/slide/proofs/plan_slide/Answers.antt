-- `slide::plan_slide`: what stands before the block doesn't agree, or nobody does; else the block is joined with its
-- neighbours, of which the one before is planned as it will be when the one behind left.
use Prim.Native.Nat.{◌-◌, ◌≤◌}
use native.Mathlib.Omega.{arith}
use Rattle.std.specs.Prelude.{Some}
use Rattle.std.proofs.lemmas.Result.{err_from_is_err_and}
use Rattle.align.proofs.Align.{power_pos}
use Rattle.invariants.specs.Placing.{place_most}
use Rattle.invariants.proofs.Placing.{place_some}
use Rattle.header.specs.Turned.{grains_few}
use Rattle.neighbours.specs.Leaving.{Linked}
use Rattle.neighbours.specs.Within.{before_within, before_some, known_second}
use Rattle.slide.specs.Steps.{slide_damaged, slide_alone, slide_joined}
use Rattle.slide.proofs.plan_slide.Goals as goal
use Rattle.slide.proofs.plan_slide.Goals.{In-Some}

-- the neighbour before starts in the arena
before : (c : In-Some) → let s = c.args in (c.in-Some.f.grains ≤ s.x) × Linked s.a.now c.in-Some.f
before c = let s = c.args in before_within s.a.now s.lists.now c.well_formed.0.0 s.x (Some c.in-Some.f) (rw c.in-Some.is at c.in_ok-f.ensures)

pub returns-in_err-f : goal.returns-in_err-f
returns-in_err-f c =
    let s = c.args in
    let p = err_from_is_err_and c.from_residual.result c.from_residual.ensures.1 in
    rw (p.1, p.2) (slide_damaged s.a.now s.lists.now s.x s.s s.behind s.length s.multiple c.requires.0 c.in_err-f.field-0.0 c.in_err-f.ensures)

pub returns-in_default : goal.returns-in_default
returns-in_default c =
    let s = c.args in
    slide_alone s.a.now s.lists.now s.x s.s s.behind s.length s.multiple c.requires.0 (rw c.in_default.is at c.in_ok-f.ensures)

pub overflow_sub-z : goal.overflow_sub-z
overflow_sub-z c = (before (goal.at.overflow_sub-z c).In-Some).0

pub overflow_add-t-2 : goal.overflow_add-t-2
overflow_add-t-2 c =
    omega (arith, (before (goal.at.overflow_add-t-2 c).In-Some).0, c.requires.0.inside, c.grains_of.ensures, grains_few c.args.a.now c.well_formed.0.0)

pub plan_down-requires : goal.plan_down-requires
plan_down-requires c =
    let a = c.args.a.now in
    let z = c.args.x - c.in-Some.f.grains in
    let b = before (goal.at.plan_down-requires c).In-Some in
    let pos = power_pos c.args.multiple c.requires.2 in (
      omega (arith, b.0, c.requires.0.inside, c.grains_of.ensures),
      c.requires.0.known,
      rw c.second-before.ensures (known_second a c.args.behind c.in-Some.f _ c.requires.0.known b.1),
      c.requires.1,
      omega (arith, c.place_of-place.ensures, place_some c.args.multiple z pos),
      omega (arith, c.place_of-place.ensures, place_most c.args.multiple z pos, c.requires.3),
    )

pub returns : goal.returns
returns c =
    let s = c.args in
    let g = rw c.in-Some.is at c.in_ok-f.ensures in
    slide_joined s.a.now s.lists.now s.x s.s s.behind s.length s.multiple c.requires.0 c.in-Some.f g
    (before_some s.a.now s.lists.now c.well_formed.0.0 s.x c.in-Some.f g) (before (goal.at.returns c).In-Some).0 c.place_of-place.result c.well_formed.0.0 c.place_of-place.ensures
    c.plan_down.result (rw (c.grains_of.ensures, c.second-before.ensures) at c.plan_down.ensures)
